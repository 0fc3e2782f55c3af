-- How the log shows numbers, addresses and texts of others: in printing ASCII alone.
use Rattle.std.specs.Prelude.{ℕ, List, [], ◌∷◌, ◌++◌, Bool, ◌==◌, ◌&&◌, not, ◌+◌, ◌/◌, ◌%◌, Option, Some, None, if◌then◌else◌, nat_lt, nat_le, length, take, codes, decimal}
use Rattle.std.specs.List.{flat_map, list_any}

abbrev pub Text : Type 0
Text = List ℕ

-- the space and all marks, digits and letters of ASCII
abbrev pub is_printing : ℕ → Bool
is_printing b = nat_le 32 b && nat_le b 126

-- ---- texts

-- the last hexadecimal digit of a number
abbrev pub hex_digit : ℕ → ℕ
hex_digit n = if nat_lt (n % 16) 10 then 48 + n % 16 else 87 + n % 16

-- as it stands where it prints, and is neither a backslash nor the mark that ends the text; else as \xNN
abbrev pub shown_byte : ℕ → ℕ → Text
shown_byte mark b = if is_printing b && (not (b == 92) && not (b == mark)) then b ∷ [] else 92 ∷ 120 ∷ hex_digit (b / 16) ∷ hex_digit b ∷ []

-- its first 200 bytes, and that there are more
abbrev pub shown : ℕ → Text → Text
shown mark text = flat_map (shown_byte mark) (take 200 text) ++ (if nat_lt 200 (length text) then codes "..." else [])

-- one word: no space within
abbrev pub shown_name : Text → Text
shown_name = shown 32

-- between quotation marks
abbrev pub quoted : Text → Text
quoted text = 34 ∷ shown 34 text ++ 34 ∷ []

-- to the end of the line
abbrev pub shown_text : Text → Text
shown_text = shown 92

-- ---- numbers

abbrev pub shown_host : Text → Text
shown_host host = if list_any (λ b. b == 58) host then 91 ∷ shown_name host ++ 93 ∷ [] else shown_name host

-- a host and its port, with brackets round what has colons
abbrev pub address : Text → ℕ → Text
address host port = shown_host host ++ 58 ∷ decimal port

-- milliseconds as seconds and tenths, what is left of a tenth left out; nothing where they aren't known
abbrev pub after : Option ℕ → Text
after None = []
after (Some ms) = codes " after " ++ decimal (ms / 1000) ++ 46 ∷ decimal (ms % 1000 / 100) ++ codes " s"
