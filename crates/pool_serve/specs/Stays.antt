-- A client's whole time with a worker.
use Rattle.std.specs.Prelude.{◌≡◌, ◌⊎◌, ℕ, Bool, List, Option}
use Rattle.link_model.specs.Standing.{ClientFacts}
use Rattle.message_view.specs.declared.refusal.Refusal.{Refusal}
use Rattle.link_start.specs.declared.start.StartCause.{StartCause}
use Rattle.book_model.specs.declared.events.Beyond.{Beyond}
use Rattle.console_run.specs.Passing.{Pass, pass_of}
use Rattle.link_desk.specs.declared.answers.Arrival.TheVariants as arrival
use Rattle.link_desk.specs.declared.answers.Cancelled.{Cancelled}
use Rattle.link_desk.specs.declared.answers.Gone.{Gone}
use Rattle.link_desk.specs.declared.calls.Holder.{Holder}
use Rattle.link_desk.specs.Homes.{HomeOf}
use Rattle.link_desk.specs.Passes.{PassOf, after_cancel, after_leaving, arrived, cancelled_by, left, one_arrived}
use Rattle.login_core.specs.Logins.{LoginView}
use Rattle.login_run.specs.Laws.{AllowedBy, own}
use Rattle.login_run.specs.declared.run.LoginTurn.{LoginTurn}
use Rattle.login_run.specs.declared.run.LoginTurn.TheVariants as turn
use Rattle.pool_serve.specs.Again.{HasAskedAgain}
use Rattle.pool_serve.specs.Causes.{AtArrival, HasCause, Since}
use Rattle.pool_serve.specs.Endings.{HadLease, IsUnreached, IsUnstarted, Traces, refusal_in}
use Rattle.pool_serve.specs.Serving.{AreMarksOf, IsManaged, IsServed}
use Rattle.pool_serve.specs.FinalMessages.{HasGiven, final_message_of, last_bytes, or_nothing}
use Rattle.pool_serve.specs.declared.ending.Ending.{Ending}
use Rattle.pool_serve.specs.declared.ending.Ending.TheVariants as ending
use Rattle.pool_serve.specs.declared.logged_in.LoggedIn.{LoggedIn}

-- a client that is through this login
pub record IsGuestOf (v : LoginView) (g : LoggedIn) : Type 0 where
  pub word : g.word ≡ v.word
  pub settings : g.login.settings ≡ v.settings
  pub users : g.login.users ≡ v.users

pub record LeasedAs (home : HomeOf) (v : LoginView) (after : ClientFacts) (r : Option Refusal) : Type 0 where
  pub logged_in : LoggedIn
  pub is_logged_in : IsGuestOf v logged_in
  pub before : ClientFacts
  pub lease : HadLease home logged_in before after r

pub record UnstartedAs (home : HomeOf) (v : LoginView) (cause : StartCause) : Type 0 where
  pub logged_in : LoggedIn
  pub is_logged_in : IsGuestOf v logged_in
  pub unstarted : IsUnstarted home logged_in cause

pub record UnreachedAs (home : HomeOf) (v : LoginView) : Type 0 where
  pub logged_in : LoggedIn
  pub is_logged_in : IsGuestOf v logged_in
  pub unreached : IsUnreached home logged_in

-- what the ends tell of an ending
abbrev pub CameIn : HomeOf → LoginView → ClientFacts → Ending → Type 0
CameIn home v after (ending.Relayed r) = LeasedAs home v after r
CameIn home v after (ending.Unstarted cause) = UnstartedAs home v cause
CameIn home v after ending.Unreached = UnreachedAs home v
CameIn home v after other = Unit {0}

-- where it was a client of the console, whose talk ended so
abbrev pub IfManaged : Ending → (Option Refusal → Type 0) → Type 0
IfManaged (ending.Managed last) holds = holds last
IfManaged other holds = Unit {0}

-- A pass before a client's arrival and behind its leaving; and the same pass between, once the client was let in and before it left.
pub record IsStay (p q m n : Pass) : Type 0 where
  pub beyond : Beyond
  pub number : ℕ
  pub let_in : m.counted ≡ one_arrived p.counted
  pub arrived_as : m.holder ≡ arrived beyond p.holder (arrival.Client number)
  pub gone : Gone
  pub counted : q.counted ≡ after_leaving n.counted gone
  pub has_left : q.holder ≡ left n.holder

-- a client of the console was served so between its arrival and its leaving
pub record StayedAtConsole (v : LoginView) (p q : Pass) (after : ClientFacts) (last : Option Refusal) : Type 0 where
  pub here : Pass
  pub leaves : Pass
  pub stay : IsStay p q here leaves
  pub managed : IsManaged v here leaves after last

-- a client of this login may have asked again for its link: what its pass had counted at first, and when it asked last
abbrev pub MayHaveAskedAgain : HomeOf → LoginView → PassOf → PassOf → Type 0
MayHaveAskedAgain home v p last = (last ≡ p) ⊎ ((g : LoggedIn) × (IsGuestOf v g × HasAskedAgain home g p last))

-- what the decisions tell of its ending, from where it asked last
pub record TracesAtLast (home : HomeOf) (v : LoginView) (since : Since) (p q : PassOf) (e : Ending) : Type 0 where
  pub last : PassOf
  pub again : MayHaveAskedAgain home v p last
  pub traces : Traces since last q e

-- What it was given is allowed for what a server started for it alone answers, where cancels struck some of its frames or none: a
-- refusal in it has its cause, from where it asked last.
pub record IsAllowed (home : HomeOf) (v : LoginView) (p q : PassOf) (c : ClientFacts) : Type 0 where
  pub last : PassOf
  pub again : MayHaveAskedAgain home v p last
  pub marks : List Bool
  pub are_marks : AreMarksOf home.strikable marks
  pub allowed : AllowedBy (HasCause v c.taken last q) c.given (own home.catalogue v marks c.taken)

-- A client of the console, to which no server would have answered: it was given all pieces of its login and what the console says to
-- it, and then the last word.
pub record IsAtConsole (v : LoginView) (p q : Pass) (after : ClientFacts) : Type 0 where
  pub last : Option Refusal
  pub before : ClientFacts
  pub managed : StayedAtConsole v p q before last
  pub told : HasGiven before after (last_bytes (or_nothing last))

-- what it was given until then, but for its last word; what a client of the console was given stands where it came in
abbrev pub ServesAs : HomeOf → LoginView → ClientFacts → Ending → Type 0
ServesAs home v c (ending.Managed last) = Unit {0}
ServesAs home v c e = IsServed home v c (final_message_of e)

-- the client never arrived at the desk
pub record IsUntouched (p q : PassOf) (h k : Holder) : Type 0 where
  pub counted : q ≡ p
  pub holder : k ≡ h

-- by how its login stopped short of an arrival: what it asked to be cancelled was passed on, or the pass is as it was
abbrev pub IsDismissed : LoginTurn → PassOf → PassOf → Holder → Holder → Type 0
IsDismissed (turn.Cancel key) p q h k = (answer : Cancelled) × ((q ≡ after_cancel p answer) × (k ≡ cancelled_by key h answer))
IsDismissed _ p q h k = IsUntouched p q h k

-- Its time at the desk ended so, and it was told the last word of that. No cancel was asked for or sent.
pub record IsOver (home : HomeOf) (v : LoginView) (p q : PassOf) (h k : Holder) (after : ClientFacts) : Type 0 where
  pub ending : Ending
  pub before : ClientFacts
  pub traces : TracesAtLast home v AtArrival p q ending
  pub refused : k.refused ≡ refusal_in ending
  pub found : k.found ≡ h.found
  pub struck : k.struck ≡ h.struck
  pub came : CameIn home v before ending
  pub managed : IfManaged ending (StayedAtConsole v (pass_of p h) (pass_of q k) before)
  pub told : HasGiven before after (last_bytes (final_message_of ending))
