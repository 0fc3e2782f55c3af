-- The pieces of what may be nothing.
use Rattle.std.proofs.Common.{◌≡◌, refl, ℕ, List, [], ◌∷◌, append-nil}
use Rattle.message_view.specs.Refusals.{joined_pieces}
use Rattle.login_core.specs.Dialogue.{if_any}

pub joined_if_any : (text : List ℕ) → joined_pieces (if_any text) ≡ text
joined_if_any [] = refl
joined_if_any (b ∷ bs) = append-nil (b ∷ bs)
