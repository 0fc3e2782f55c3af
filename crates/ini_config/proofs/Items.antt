-- The items of a row's value.
use Rattle.std.proofs.Common.{◌≡◌, ℕ, List, [], ◌∷◌, None, refl}
use Rattle.ini_config.specs.DatabaseValues.{with_texts}

-- after a faulty item nothing is said
pub no_texts : (items : List (List ℕ)) → with_texts None items ≡ None
no_texts [] = refl
no_texts (item ∷ items) = no_texts items
