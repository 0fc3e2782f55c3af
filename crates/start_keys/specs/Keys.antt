-- When two start keys are one.
use Rattle.std.specs.Prelude.{◌≡◌, ◌++◌, ℕ, List, Option, Some, None, Bool, true, false, ◌&&◌, ◌==◌, bytes_eq}
use Rattle.std.specs.Hash as fed
use Rattle.std.specs.Bool.{Decides}
use Rattle.std.specs.Cmp.Lexicographic.{pointwise}
use Rattle.session_values.specs.State.{StartKeyOf}
use Rattle.start_keys.specs.StartPairs.{Pair}

abbrev pub same_host : Option (List ℕ) → Option (List ℕ) → Bool
same_host None None = true
same_host (Some a) (Some b) = bytes_eq a b
same_host _ _ = false

abbrev pub same_pair : Pair → Pair → Bool
same_pair p q = bytes_eq p.0 q.0 && bytes_eq p.1 q.1

abbrev pub same_pairs : List Pair → List Pair → Bool
same_pairs ps qs = pointwise same_pair ps qs

-- each part is the same, byte for byte
abbrev pub same_key : StartKeyOf → StartKeyOf → Bool
same_key a b = bytes_eq a.row b.row && (same_host a.host b.host && (a.port == b.port && (bytes_eq a.dbname b.dbname && (bytes_eq a.user b.user && same_pairs a.parameters b.parameters))))

-- Keys are found to be the same just where they are one.
abbrev pub SameKeysAreOne : Type 0
SameKeysAreOne = (a b : StartKeyOf) → Decides (same_key a b) (a ≡ b)

-- ---- what is hashed: the row, the user and the parameters, since keys of one row have one server

abbrev pub text_hashed : List ℕ → List (List ℕ)
text_hashed t = fed.slice fed.u8 t

abbrev pub pair_hashed : Pair → List (List ℕ)
pair_hashed p = text_hashed p.0 ++ text_hashed p.1

abbrev pub key_hashed : StartKeyOf → List (List ℕ)
key_hashed k = text_hashed k.row ++ text_hashed k.user ++ fed.slice pair_hashed k.parameters
