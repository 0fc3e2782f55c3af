-- What was read of a client's stream ahead of what was asked for.
use Rattle.std.specs.Prelude.{◌≡◌, ℕ, ◌<◌, ◌==◌, Bool, List, [], Option, length}
use Rattle.std.specs.Io.KnownBytes.{prepend_known}
use Rattle.server_end.specs.declared.Moved.{Moved}
use Rattle.server_end.specs.declared.Moved.TheVariants.{Count, NotNow, Ended, Fault}

abbrev pub is_empty : List ℕ → Bool
is_empty ahead = length ahead == 0

-- what is still to come: what was read ahead, and then what the stream has, where that is known
abbrev pub to_come : List ℕ → Option (List ℕ) → Option (List ℕ)
to_come ahead rest = prepend_known ahead rest

-- what is there after a read ahead
abbrev pub IsFilled : Moved → List ℕ → Type 0
IsFilled (Count n) ahead = (0 < n) × (length ahead ≡ n)
IsFilled NotNow ahead = ahead ≡ []
IsFilled Ended ahead = ahead ≡ []
IsFilled Fault ahead = ahead ≡ []
