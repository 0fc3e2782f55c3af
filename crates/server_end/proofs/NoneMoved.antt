use Rattle.std.proofs.Common.{◌≡◌, ℕ, List, [], refl}
use Rattle.server_end.specs.declared.Moved.{Moved}
use Rattle.server_end.specs.declared.Moved.TheVariants.{Count, NotNow, Ended, Fault}
use Rattle.server_end.specs.Moves.{moved}

-- Without a count nothing was moved.
pub none_moved : (m : Moved) (bytes : List ℕ) → ((n : ℕ) → m ≡ Count n → ⊥) → moved m bytes ≡ []
none_moved (Count n) bytes h = absurd (h n refl)
none_moved NotNow bytes h = refl
none_moved Ended bytes h = refl
none_moved Fault bytes h = refl
