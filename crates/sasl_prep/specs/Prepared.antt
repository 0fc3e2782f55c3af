-- SASLprep (RFC 4013), as PostgreSQL prepares a password by it (its manual, "SASL Authentication").
use Rattle.std.specs.Prelude.{ℕ, ◌-◌, Bool, false, not, List, ◌==◌, ◌&&◌, ◌||◌, if◌then◌else◌, nat_le, nat_lt, length, map, filter, Option, Some, None, chars, encode_utf8_all, slice_get, unwrap_or}
use Rattle.std.specs.List.{list_all, list_any}
use Rattle.std.specs.Str.{is_utf8}
use Rattle.unicode_normalization.specs.Forms.{nfkc}
use Rattle.sasl_prep.specs.declared.tables.TheConstants.{NON_ASCII_SPACES, MAPPED_TO_NOTHING, PROHIBITED, UNASSIGNED, RIGHT_TO_LEFT, LEFT_TO_RIGHT}

-- ---- characters, by the tables of RFC 3454

unfoldable pub is_in : List (ℕ × ℕ) → ℕ → Bool
is_in ranges c = list_any (λ r. nat_le r.0 c && nat_le c r.1) ranges

unfoldable pub is_non_ascii_space : ℕ → Bool
is_non_ascii_space c = is_in NON_ASCII_SPACES c

unfoldable pub is_mapped_to_nothing : ℕ → Bool
is_mapped_to_nothing c = is_in MAPPED_TO_NOTHING c

unfoldable pub is_prohibited : ℕ → Bool
is_prohibited c = is_in PROHIBITED c

unfoldable pub is_unassigned : ℕ → Bool
is_unassigned c = is_in UNASSIGNED c

unfoldable pub is_right_to_left : ℕ → Bool
is_right_to_left c = is_in RIGHT_TO_LEFT c

unfoldable pub is_left_to_right : ℕ → Bool
is_left_to_right c = is_in LEFT_TO_RIGHT c

-- ---- mapping (RFC 4013, section 2.1)

abbrev pub to_space : ℕ → ℕ
to_space c = if is_non_ascii_space c then 32 else c

abbrev pub is_kept : ℕ → Bool
is_kept c = not (is_mapped_to_nothing c)

-- spaces first: U+200B stands in both tables
unfoldable pub mapped : List ℕ → List ℕ
mapped cs = filter is_kept (map to_space cs)

-- ---- what is refused (sections 2.3 to 2.5). PostgreSQL looks at the mapped text, before it is normalized, and refuses an empty one

abbrev pub is_forbidden : ℕ → Bool
is_forbidden c = is_prohibited c || is_unassigned c

abbrev pub is_some_right_to_left : Option ℕ → Bool
is_some_right_to_left None = false
is_some_right_to_left (Some c) = is_right_to_left c

-- a text with a character written from the right to the left begins and ends with one, and has none written from the left to the
-- right (RFC 3454, section 6)
abbrev pub mixes_directions : List ℕ → Bool
mixes_directions cs =
    list_any is_right_to_left cs
    && not (is_some_right_to_left (slice_get cs 0) && (is_some_right_to_left (slice_get cs (length cs - 1)) && not (list_any is_left_to_right cs)))

abbrev pub is_refused : List ℕ → Bool
is_refused cs = (length cs == 0) || (list_any is_forbidden cs || mixes_directions cs)

-- ---- the whole (section 2): normalized by form KC (section 2.2), in UTF-8; None where it is refused

unfoldable pub normalized_text : List ℕ → Option (List ℕ)
normalized_text cs = if is_refused cs then None else Some (encode_utf8_all (nfkc cs))

abbrev pub saslprep : List ℕ → Option (List ℕ)
saslprep cs = normalized_text (mapped cs)

-- ---- a password

abbrev pub is_ascii : List ℕ → Bool
is_ascii text = list_all (λ b. nat_lt b 128) text

abbrev pub prepared_utf8 : List ℕ → List ℕ
prepared_utf8 text = unwrap_or (saslprep (chars text)) text

-- ASCII alone stays as it is, its control characters too; so does what isn't UTF-8, and what is refused
unfoldable pub prepared : List ℕ → List ℕ
prepared text = if is_ascii text then text else if is_utf8 text then prepared_utf8 text else text
