-- What the proofs over worlds know of the login.
use Rattle.std.proofs.Common.{◌≡◌, ℕ, List, [], ◌++◌, refl}
use Rattle.message_view.specs.declared.KeyWord.{KeyWord}
use Rattle.frame_view.proofs.Growth.{front-grows}
use Rattle.frame_view.proofs.FirstGrowth.{first-grows}
use Rattle.login_core.specs.Talk.End.{Passed, Stopped}
use Rattle.login_core.specs.Dialogue.{LoginRow, Way, Reason, login}
use Rattle.login_core.specs.Laws.{Grown}
use Rattle.login_core.proofs.Growing.{packets, logins}
use Rattle.world_steps.specs.Relation.{IsFront}

module _ (row : LoginRow) (word : KeyWord) (a b : List ℕ) where
  grown : Grown (login row word a) (login row word (a ++ b)) b
  grown = logins (packets first-grows front-grows) (λ database user. row) word a b

  pub login_front : IsFront (login row word a).pieces (login row word (a ++ b)).pieces
  login_front = record { rest = grown.front.0; is = grown.front.1 }

  pub login_passed : (way : Way) (left : List ℕ) → (login row word a).ended ≡ Passed way left →
      ((login row word (a ++ b)).pieces ≡ (login row word a).pieces) × ((login row word (a ++ b)).ended ≡ Passed way (left ++ b))
  login_passed way left e = grown.passed way left e

  pub login_stopped : (reason : Reason) → (login row word a).ended ≡ Stopped reason → login row word (a ++ b) ≡ login row word a
  login_stopped reason e = grown.stopped reason e

pub login_empty : (row : LoginRow) (word : KeyWord) → (login row word []).pieces ≡ []
login_empty row word = refl
