-- Places in a list.
use Rattle.std.specs.Prelude.{Bool, false, Option, Some, None}

-- something is there, and passes
abbrev pub passes : {A : Type 0} → (A → Bool) → Option A → Bool
passes test None = false
passes test (Some x) = test x
