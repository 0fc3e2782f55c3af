-- Characters of statements, and texts compared without regard to ASCII case.
use Rattle.std.specs.Prelude.{ℕ, List, Bool, nat_le, ◌==◌, ◌&&◌, ◌||◌}
use Rattle.std.specs.Str.{bytes_eq, str_to_ascii_lowercase}

-- bytes
abbrev pub Text : Type 0
Text = List ℕ

abbrev pub folded : Text → Text
folded t = str_to_ascii_lowercase t

abbrev pub same_text : Text → Text → Bool
same_text a b = bytes_eq a b

-- the same text but for ASCII case
abbrev pub same_word : Text → Text → Bool
same_word a b = bytes_eq (folded a) (folded b)

abbrev pub is_between : ℕ → ℕ → ℕ → Bool
is_between low high b = nat_le low b && nat_le b high

abbrev pub is_digit : ℕ → Bool
is_digit b = is_between 48 57 b

abbrev pub is_letter : ℕ → Bool
is_letter b = is_between 65 90 b || is_between 97 122 b

-- space, tab, LF, CR, FF
abbrev pub is_white : ℕ → Bool
is_white b = b == 32 || b == 9 || b == 10 || b == 13 || b == 12

-- a letter or an underscore
abbrev pub starts_name : ℕ → Bool
starts_name b = is_letter b || b == 95

abbrev pub is_in_name : ℕ → Bool
is_in_name b = starts_name b || is_digit b
