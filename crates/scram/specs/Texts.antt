-- Parts of texts: what stands before and behind a mark, behind a front, numbers, base64 and attributes (RFC 5802, section 5).
use Rattle.std.specs.Prelude.{ℕ, ◌+◌, ◌-◌, ◌*◌, not, List, [], ◌∷◌, ◌==◌, ◌&&◌, if◌then◌else◌, nat_le, nat_eq, length, take, drop, fold, Option, Some, None, option_map, option_and_then, unwrap_or}
use Rattle.std.specs.Char.{is_ascii_digit}
use Rattle.std.specs.List.{list_all, starts_with}
use Rattle.memchr.specs.Find.{first_of, matches}
use Rattle.base64.specs.Engines.{standard}
use Rattle.base64.specs.GeneralPurpose.{decoded_of, encode_of}
use Rattle.scram.specs.Keys.{Text}

infixl 10 ◌>>=◌
abbrev pub ◌>>=◌ : {A B : Type 0} → Option A → (A → Option B) → Option B
o >>= f = option_and_then f o

-- what stands before the first mark, and what follows it
abbrev pub split_at_first : ℕ → Text → Option (Text × Text)
split_at_first mark text = option_map (λ k. (take k text, drop (k + 1) text)) (first_of (matches text (mark ∷ []) 0))

-- what follows this front
abbrev pub behind : (front : Text) → Text → Option Text
behind front text = if starts_with nat_eq text front then Some (drop (length front) text) else None

-- the number that decimal digits spell
abbrev pub digits_value : Text → ℕ
digits_value digits = fold (λ n d. 10 * n + (d - 48)) 0 digits

abbrev pub within : ℕ → ℕ → ℕ → Option ℕ
within low high n = if nat_le low n && nat_le n high then Some n else None

-- one or more decimal digits, leading zeros allowed, whose number lies within the bounds
unfoldable pub number_between : ℕ → ℕ → Text → Option ℕ
number_between low high text =
    if not (length text == 0) && list_all is_ascii_digit text then within low high (digits_value text) else None

-- base64 with its padding (RFC 4648, section 4). Of several spellings that some readers take, one alone is read: its padding whole, and
-- zeros in the bits that are left over (section 3.5)
abbrev pub base64 : List ℕ → Text
base64 bytes = encode_of standard bytes

abbrev pub from_base64 : Text → Option (List ℕ)
from_base64 text = decoded_of standard text

-- a key has 32 bytes
abbrev pub if_key : List ℕ → Option (List ℕ)
if_key bytes = if length bytes == 32 then Some bytes else None

unfoldable pub key_in : Text → Option (List ℕ)
key_in text = option_and_then if_key (from_base64 text)

-- the value of an attribute: a letter, an equals sign, and the value
abbrev pub attribute : ℕ → Text → Option Text
attribute letter text = behind (letter ∷ 61 ∷ []) text

-- the part before the first comma and what follows that; all of it and nothing, where there is no comma
abbrev pub first_part : Text → Text × Text
first_part text = unwrap_or (split_at_first 44 text) (text, [])
