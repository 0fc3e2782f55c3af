-- The values of settings (PgBouncer manual, "Generic settings", "Section [databases]").
use Rattle.std.specs.Prelude.{ℕ, ◌+◌, ◌-◌, ◌*◌, not, List, [], ◌∷◌, ◌==◌, ◌&&◌, if◌then◌else◌, nat_lt, nat_le, length, take, drop, fold, filter, map, slice_index, Option, Some, None, option_map, option_and_then}
use Rattle.std.specs.Char.{is_ascii_digit}
use Rattle.std.specs.List.{list_all}
use Rattle.memchr.specs.Find.{first_of, matches}
use Rattle.bstr.specs.Text.{split_at}
use Rattle.text_lines.specs.Lines.{trimmed}

infixl 10 ◌>>=◌
abbrev pub ◌>>=◌ : {A B : Type 0} → Option A → (A → Option B) → Option B
o >>= f = option_and_then f o

-- what stands before the first mark, and what follows it
abbrev pub split_at_first : ℕ → List ℕ → Option (List ℕ × List ℕ)
split_at_first mark text = option_map (λ k. (take k text, drop (k + 1) text)) (first_of (matches text (mark ∷ []) 0))

-- the parts of a text between the marks
abbrev pub parts : ℕ → List ℕ → List (List ℕ)
parts mark text = split_at text 1 0 (matches text (mark ∷ []) 0)

-- ---- numbers

-- the number that decimal digits spell
abbrev pub digits_value : List ℕ → ℕ
digits_value digits = fold (λ n d. 10 * n + (d - 48)) 0 digits

-- the number, if it lies within the bounds
abbrev pub within : ℕ → ℕ → ℕ → Option ℕ
within low high n = if nat_le low n && nat_le n high then Some n else None

-- one or more decimal digits, leading zeros allowed, whose number lies within the bounds
unfoldable pub number_between : ℕ → ℕ → List ℕ → Option ℕ
number_between low high text =
    if not (length text == 0) && list_all is_ascii_digit text then within low high (digits_value text) else None

-- ---- addresses

-- a number from 0 to 255 without leading zeros
unfoldable pub octet : List ℕ → Option ℕ
octet text = if nat_lt 1 (length text) && slice_index text 0 == 48 then None else number_between 0 255 text

-- four of them, parted by dots
unfoldable pub dotted : List ℕ → Option (List ℕ)
dotted text = do
  one ← split_at_first 46 text
  two ← split_at_first 46 one.1
  three ← split_at_first 46 two.1
  a ← octet one.0
  b ← octet two.0
  c ← octet three.0
  d ← octet three.1
  Some (a ∷ b ∷ c ∷ d ∷ [])

-- ---- the rights of a file

abbrev pub octal : ℕ → Option ℕ
octal digit = if nat_le 48 digit && nat_le digit 55 then Some (digit - 48) else None

abbrev pub octals : ℕ → ℕ → ℕ → Option ℕ
octals first second third = do
  a ← octal first
  b ← octal second
  c ← octal third
  Some (64 * a + 8 * b + c)

-- three octal digits: of the owner, of the group and of others; a zero may stand before them
abbrev pub mode : List ℕ → Option ℕ
mode (first ∷ second ∷ third ∷ []) = octals first second third
mode (before ∷ first ∷ second ∷ third ∷ []) = if before == 48 then octals first second third else None
mode text = None

-- ---- names

-- the names of a list, parted by commas; empty ones are left out
unfoldable pub names : List ℕ → List (List ℕ)
names text = filter (λ name. not (length name == 0)) (map trimmed (parts 44 text))
