-- An end that tells by its first accepted byte whether it may die.
use Rattle.std.proofs.Common.{◌≡◌, ℕ, refl, subst}
use Rattle.std.specs.Prelude.{Option}
use Rattle.link_model.specs.Standing.{Standing}
use Rattle.memory_lease.specs.Own.{IsMarked, OwnOf, own_server}

pub is_marked : (left : Option ℕ) (at : Standing) (o : OwnOf) → own_server left at ≡ o → IsMarked o
is_marked left at o e = subst IsMarked e (at.accepted, refl)
