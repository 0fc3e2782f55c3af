-- An index that may have been given up.
use Rattle.std.specs.Prelude.{Option, Some, None}

-- it changes so, or is given up, and then for good
abbrev pub Follows : {N : Type 0} → (N → N → Type 0) → Option N → Option N → Type 0
Follows changes old None = Unit {0}
Follows changes None (Some new) = ⊥
Follows changes (Some old) (Some new) = changes old new
