-- The stand-in server of one client, as its callers see it.
use Rattle.std.specs.Prelude.{◌≡◌, ℕ, List, ◌∷◌, Option, Some, None}
use Rattle.link_model.specs.Standing.{Standing}

pub record OwnOf : Type 0 where
  pub standing : Standing
  -- so many more bytes are read from it before it dies, if it does
  pub left : Option ℕ

abbrev pub mark : Option ℕ → ℕ
mark (Some n) = 1
mark None = 0

-- It counts as accepted, before all that it was, whether it may die: so an end tells at the lease's end what it was at its start.
abbrev pub marked : Option ℕ → Standing → Standing
marked left at = record at { accepted = mark left ∷ at.accepted }

abbrev pub own_server : Option ℕ → Standing → OwnOf
own_server left at = record { standing = marked left at; left = left }

abbrev pub IsMarked : OwnOf → Type 0
IsMarked o = (rest : List ℕ) × (o.standing.accepted ≡ mark o.left ∷ rest)
