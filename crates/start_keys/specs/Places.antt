-- Where a name stands among names in their order.
use Rattle.std.specs.Prelude.{ℕ, suc, List, [], ◌∷◌, Bool, false, Option, Some, None, bytes_eq, slice_get, if◌then◌else◌}
use Rattle.session_values.specs.Lawful.{is_before}
use Rattle.start_keys.specs.StartPairs.{Text, Pair}

-- how many of the first ones come before the name
abbrev pub place_in : Text → List Pair → ℕ
place_in name [] = 0
place_in name (p ∷ pairs) = if is_before p.0 name then suc (place_in name pairs) else 0

abbrev pub is_called : Text → Option Pair → Bool
is_called name None = false
is_called name (Some p) = bytes_eq p.0 name

-- whether the pair at the place has the name
abbrev pub is_at : ℕ → Text → List Pair → Bool
is_at place name pairs = is_called name (slice_get pairs place)
