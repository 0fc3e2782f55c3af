-- What the code of `replay` holds, in the definitions' words.
use Rattle.std.specs.Prelude.{◌≡◌, ◌⊎◌, ◌<◌, ℕ, List, [], ◌++◌, Bool, true, false, Option}
use Rattle.std.specs.Arc.{arc_value}
use Rattle.message_view.specs.declared.refusal.Refusal.TheVariants as refused
use Rattle.session_values.specs.State.{CatalogueOf}
use Rattle.link_start.specs.Starts.{IsLinkKey}
use Rattle.login_core.specs.declared.steps.LoginStep.{LoginStep}
use Rattle.login_core.specs.declared.steps.LoginStep.TheVariants as step
use Rattle.login_core.specs.Talk.{End}
use Rattle.login_core.specs.Talk.End.{Unfinished, Passed, Stopped}
use Rattle.login_core.specs.Dialogue.{Dialogue, Reason, ToConsole, ToLink, Way}
use Rattle.login_core.specs.Logins.{LoginView, goes_on, after, missing}
use Rattle.replay_run.specs.Replay.{AnswersLogin}

-- nothing is said, and the login isn't over
abbrev pub silence : Dialogue
silence = record { pieces = []; ended = Unfinished }

-- a growth was refused while the start key was made
abbrev pub WantsMemory : LoginStep → Type 0
WantsMemory s = s ≡ step.Refused refused.OutOfMemory

-- what a login says from some bytes on is what it says at a step, and from the rest on
abbrev pub Says : LoginView → List ℕ → LoginStep → LoginView → List ℕ → Type 0
Says old bytes s new rest = WantsMemory s ⊎ (goes_on old bytes ≡ after s rest (goes_on new rest))

-- the login is over
abbrev pub is_end : LoginStep → Bool
is_end step.More = false
is_end (step.Ask q) = false
is_end (step.Arrived key) = false
is_end (step.Passed key told) = true
is_end (step.Console told) = true
is_end (step.Refused refusal) = true
is_end (step.Failed f) = true
is_end (step.Cancel pid secret) = true
is_end step.Left = true

-- a step other than an arrival; where it isn't the end, bytes are missing
abbrev pub IsPastArrival : LoginStep → LoginView → Type 0
IsPastArrival (step.Arrived key) v = ⊥
IsPastArrival step.More v = 0 < missing v.awaiting v.held
IsPastArrival (step.Ask q) v = 0 < missing v.awaiting v.held
IsPastArrival (step.Passed key told) v = Unit {0}
IsPastArrival (step.Console told) v = Unit {0}
IsPastArrival (step.Refused refusal) v = Unit {0}
IsPastArrival (step.Failed f) v = Unit {0}
IsPastArrival (step.Cancel pid secret) v = Unit {0}
IsPastArrival step.Left v = Unit {0}

-- what may be answered to what the login says was added
pub record Adds (dies : Option ℕ) (cat : CatalogueOf) (said : Dialogue) (before after : List ℕ) : Type 0 where
  pub given : List ℕ
  pub answered : AnswersLogin dies cat said given
  pub both : after ≡ before ++ given

-- the key with which a login passes can start a link
abbrev pub IsKeyed : End Way Reason → Type 0
IsKeyed Unfinished = Unit {0}
IsKeyed (Passed (ToLink key) left) = IsLinkKey key
IsKeyed (Passed ToConsole left) = Unit {0}
IsKeyed (Stopped reason) = Unit {0}

abbrev pub HasLinkKey : LoginStep → Type 0
HasLinkKey step.More = Unit {0}
HasLinkKey (step.Ask q) = Unit {0}
HasLinkKey (step.Arrived key) = Unit {0}
HasLinkKey (step.Passed key told) = IsLinkKey (arc_value key)
HasLinkKey (step.Console told) = Unit {0}
HasLinkKey (step.Refused refusal) = Unit {0}
HasLinkKey (step.Failed f) = Unit {0}
HasLinkKey (step.Cancel pid secret) = Unit {0}
HasLinkKey step.Left = Unit {0}
