-- A login over a client's end, as contracts see it.
use Rattle.std.specs.Prelude.{◌≡◌, ◌⊎◌, ℕ, ◌+◌, ◌<◌, ◌≤◌, Bool, true, false, List, [], ◌∷◌, ◌++◌, length, take, Option, Some, None}
use Rattle.std.specs.declared.sync.Arc.{Arc}
use Rattle.std.specs.Arc.{arc_value}
use Rattle.message_view.specs.declared.KeyWord.{KeyWord}
use Rattle.message_view.specs.declared.refusal.Refusal.TheVariants.{OutOfMemory}
use Rattle.message_view.specs.declared.views.KeyView.{KeyView}
use Rattle.message_view.specs.Refusals.{joined_pieces, refusal}
use Rattle.session_values.specs.State.{StartKeyOf}
use Rattle.link_model.specs.Standing.{ClientFacts}
use Rattle.login_core.specs.declared.steps.LoginStep.{LoginStep}
use Rattle.login_core.specs.declared.steps.LoginStep.TheVariants as step
use Rattle.login_core.specs.Talk.{End}
use Rattle.login_core.specs.Talk.End.{Passed as PassedWith, Stopped as StoppedFor}
use Rattle.login_core.specs.Dialogue.{Rows, Way, ToLink, ToConsole, Reason, Refused as RefusedBy, Failed, Left, Cancelling as CancellingOf, if_any, login_among}
use Rattle.login_core.specs.Logins.{Awaiting, Arriving, LoginView, rows_of, IsRevealedTo, Tells, missing, question_bytes, authenticated_bytes, failure_bytes}
use Rattle.login_run.specs.declared.login_reply.LoginReply.{LoginReply}
use Rattle.login_run.specs.declared.login_reply.LoginReply.TheVariants as said
use Rattle.login_run.specs.declared.run.Phase.{Phase}
use Rattle.login_run.specs.declared.run.Phase.TheVariants as phase
use Rattle.login_run.specs.declared.run.LoginTurn.{LoginTurn}
use Rattle.login_run.specs.declared.run.LoginTurn.TheVariants as turn

-- what it comes to, once the client was given what was said
pub data PhaseOf : Type 0 where
  Talking : PhaseOf
  Arrived : PhaseOf
  Passed : StartKeyOf → PhaseOf
  Console : PhaseOf
  Cancelling : KeyView → PhaseOf
  Stopped : PhaseOf
  Gone : PhaseOf

pub record RunView : Type 0 where
  pub client : ClientFacts
  pub login : LoginView
  pub phase : PhaseOf
  -- what was said last, and how many of its bytes the client was given
  pub said : LoginReply
  pub sent : ℕ

abbrev pub run_view : ClientFacts → LoginView → PhaseOf → LoginReply → ℕ → RunView
run_view client login phase said sent = record { client = client; login = login; phase = phase; said = said; sent = sent }

abbrev pub phase_of : Phase → PhaseOf
phase_of phase.Talking = Talking
phase_of phase.Arrived = Arrived
phase_of (phase.Passed key) = Passed (arc_value key)
phase_of phase.Console = Console
phase_of (phase.Cancelling key) = Cancelling key
phase_of phase.Stopped = Stopped
phase_of phase.Gone = Gone

abbrev pub has_gone : PhaseOf → Bool
has_gone Gone = true
has_gone _ = false

-- ---- what is said

abbrev pub said_bytes : LoginReply → List ℕ
said_bytes said.Nothing = []
said_bytes (said.Question q) = question_bytes q
said_bytes (said.LetIn told) = authenticated_bytes told
said_bytes (said.Proof told) = authenticated_bytes told
said_bytes (said.Failure f) = failure_bytes f
said_bytes (said.Refusal r) = refusal r

-- a refusal is none of the login's pieces
abbrev pub said_pieces : LoginReply → List (List ℕ)
said_pieces said.Nothing = []
said_pieces (said.Question q) = question_bytes q ∷ []
said_pieces (said.LetIn told) = authenticated_bytes told ∷ []
said_pieces (said.Proof told) = if_any (authenticated_bytes told)
said_pieces (said.Failure f) = failure_bytes f ∷ []
said_pieces (said.Refusal r) = []

abbrev pub IsPiece : LoginReply → Type 0
IsPiece (said.Refusal r) = ⊥
IsPiece _ = Unit {0}

-- what a step of the login leads to, and what is said at it
abbrev pub phase_after : LoginStep → PhaseOf
phase_after step.More = Talking
phase_after (step.Ask q) = Talking
phase_after (step.Arrived key) = Arrived
phase_after (step.Passed key told) = Passed (arc_value key)
phase_after (step.Console told) = Console
phase_after (step.Refused r) = Stopped
phase_after (step.Failed f) = Stopped
phase_after (step.Cancel pid secret) = Cancelling (record { pid = pid; secret = secret })
phase_after step.Left = Stopped

abbrev pub said_after : LoginStep → LoginReply
said_after step.More = said.Nothing
said_after (step.Ask q) = said.Question q
said_after (step.Arrived key) = said.Nothing
said_after (step.Passed key told) = said.LetIn told
said_after (step.Console told) = said.Proof told
said_after (step.Refused r) = said.Refusal r
said_after (step.Failed f) = said.Failure f
said_after (step.Cancel pid secret) = said.Nothing
said_after step.Left = said.Nothing

-- ---- what it keeps

-- whatever comes, these are the login's first pieces
abbrev pub IsBegun : Rows → KeyWord → List ℕ → List (List ℕ) → Type 0
IsBegun rows word taken pieces = (more : List ℕ) → (rest : List (List ℕ)) × (pieces ++ rest ≡ (login_among rows word (taken ++ more)).pieces)

-- whatever comes, these are all its pieces, and it has ended
abbrev pub HasEnded : Rows → KeyWord → List ℕ → List (List ℕ) → (List ℕ → End Way Reason) → Type 0
HasEnded rows word taken pieces ended = (more : List ℕ) → login_among rows word (taken ++ more) ≡ record { pieces = pieces; ended = ended more }

-- by its last word; or there was no memory for a start key
abbrev pub IsStopped : Rows → KeyWord → List ℕ → List (List ℕ) → LoginReply → Type 0
IsStopped rows word taken pieces said.Nothing = HasEnded rows word taken pieces (λ more. StoppedFor Left)
IsStopped rows word taken pieces (said.Question q) = ⊥
IsStopped rows word taken pieces (said.LetIn told) = ⊥
IsStopped rows word taken pieces (said.Proof told) = ⊥
IsStopped rows word taken pieces (said.Failure f) = HasEnded rows word taken pieces (λ more. StoppedFor Failed)
IsStopped rows word taken pieces (said.Refusal r) =
    HasEnded rows word taken pieces (λ more. StoppedFor (RefusedBy r)) ⊎ ((r ≡ OutOfMemory) × IsBegun rows word taken pieces)

-- a login whose client's end is over: a refusal that was said keeps its cause
abbrev pub IsCutOff : Rows → KeyWord → List ℕ → List (List ℕ) → LoginReply → Type 0
IsCutOff rows word taken pieces (said.Refusal r) = IsStopped rows word taken pieces (said.Refusal r)
IsCutOff rows word taken pieces _ = IsBegun rows word taken pieces

-- where the login stands that has taken these bytes and said these pieces
abbrev pub StandsAt : PhaseOf → LoginReply → LoginView → List ℕ → List (List ℕ) → Type 0
StandsAt Talking s v taken pieces = Tells v taken pieces
StandsAt Arrived s v taken pieces = Tells v taken pieces
StandsAt (Passed key) s v taken pieces = HasEnded (rows_of v) v.word taken pieces (λ more. PassedWith (ToLink key) more)
StandsAt Console s v taken pieces = HasEnded (rows_of v) v.word taken pieces (λ more. PassedWith ToConsole more)
StandsAt (Cancelling key) s v taken pieces = HasEnded (rows_of v) v.word taken pieces (λ more. StoppedFor (CancellingOf key))
StandsAt Stopped s v taken pieces = IsStopped (rows_of v) v.word taken pieces s
StandsAt Gone s v taken pieces = IsCutOff (rows_of v) v.word taken pieces s

-- The login heard these bytes: those that were taken from the client, where it tells. The client was given some whole pieces, and so
-- many bytes of what was said last.
pub record Runs (v : RunView) : Type 0 where
  pub heard : List ℕ
  pub done : List (List ℕ)
  pub stands : StandsAt v.phase v.said v.login heard (done ++ said_pieces v.said)
  pub taken : v.client.tells ≡ true → v.client.taken ≡ heard
  pub given : v.client.tells ≡ true → v.client.given ≡ joined_pieces done ++ take v.sent (said_bytes v.said)

abbrev pub IsArriving : Awaiting → Type 0
IsArriving (Arriving key) = Unit {0}
IsArriving _ = ⊥

-- of its secret the client of this link's key revealed what its login tells
abbrev pub HasRevealed : LoginView → StartKeyOf → Type 0
HasRevealed v key = IsRevealedTo (rows_of v key.row key.user) v.revealed

-- what a phase says of the login
abbrev pub Awaits : PhaseOf → LoginReply → LoginView → Type 0
Awaits Talking s v = IsPiece s × (0 < missing v.awaiting v.held)
Awaits Arrived s v = IsPiece s × IsArriving v.awaiting
Awaits (Passed key) s v = IsPiece s × HasRevealed v key
Awaits Console s v = IsPiece s
Awaits (Cancelling key) s v = s ≡ said.Nothing
Awaits _ s v = Unit {0}

abbrev pub IsRun : RunView → Type 0
IsRun v = (v.sent ≤ length (said_bytes v.said)) × Awaits v.phase v.said v.login × Runs v

-- ---- what the calls answer

pub record IsSameLogin (old new : RunView) : Type 0 where
  pub settings : new.login.settings ≡ old.login.settings
  pub users : new.login.users ≡ old.login.users
  pub word : new.login.word ≡ old.login.word
  pub tells : new.client.tells ≡ old.client.tells

abbrev pub IsAllGiven : RunView → Type 0
IsAllGiven v = v.sent ≡ length (said_bytes v.said)

-- the client's end ended or faulted
abbrev pub IsClientOver : ClientFacts → ClientFacts → Type 0
IsClientOver old new = (new.ended ≡ true) ⊎ (old.faults < new.faults)

-- bytes taken from the client and given to it
abbrev pub bytes_moved : ClientFacts → ℕ
bytes_moved c = length c.taken + length c.given

-- a write: some bytes of what was said, or none at that time
abbrev pub HasWritten : RunView → RunView → LoginTurn → Type 0
HasWritten old new turn.Again = (old.client.tells ≡ true → bytes_moved old.client < bytes_moved new.client) × (new.phase ≡ old.phase) × (new.said ≡ old.said) × (new.login ≡ old.login)
HasWritten old new turn.Wait = (new.client.write_waits ≡ old.client.write_waits + 1) × (new.client.read_waits ≡ old.client.read_waits) × (new.phase ≡ old.phase) × (new.said ≡ old.said) × (new.login ≡ old.login) × (new.sent ≡ old.sent)
HasWritten old new turn.Over = (new.phase ≡ Gone) × IsClientOver old.client new.client
HasWritten old new _ = ⊥

-- a read: some bytes of the packet that the login waits for, or none at that time
abbrev pub HasRead : RunView → RunView → LoginTurn → Type 0
HasRead old new turn.Again = old.client.tells ≡ true → bytes_moved old.client < bytes_moved new.client
HasRead old new turn.Wait = (new.client.read_waits ≡ old.client.read_waits + 1) × (new.client.write_waits ≡ old.client.write_waits) × (new.phase ≡ Talking) × (new.login ≡ old.login)
HasRead old new turn.Over = (new.phase ≡ Gone) × IsClientOver old.client new.client
HasRead old new _ = ⊥

abbrev pub HasPassed : PhaseOf → Type 0
HasPassed (Passed key) = Unit {0}
HasPassed _ = ⊥

-- What a turn came to. The login is over only where all was given that was said last, or the client's end ended or faulted.
abbrev pub HasTurned : RunView → RunView → LoginTurn → Type 0
HasTurned old new turn.Again = old.client.tells ≡ true → bytes_moved old.client < bytes_moved new.client
HasTurned old new turn.Wait = (new.client.read_waits + new.client.write_waits ≡ old.client.read_waits + old.client.write_waits + 1) × (new.phase ≡ old.phase)
HasTurned old new turn.Arrived = (new.phase ≡ Arrived) × IsAllGiven new
HasTurned old new turn.Passed = HasPassed new.phase × IsAllGiven new
HasTurned old new turn.Console = (new.phase ≡ Console) × IsAllGiven new
HasTurned old new (turn.Cancel key) = (new.phase ≡ Cancelling key) × IsAllGiven new
HasTurned old new turn.Over = ((new.phase ≡ Stopped) × IsAllGiven new) ⊎ ((new.phase ≡ Gone) × ((old.phase ≡ Gone) ⊎ IsClientOver old.client new.client))

-- the key of a client that was let in
abbrev pub IsKeyOf : {Z : Type 0} → PhaseOf → Option (Arc StartKeyOf Z) → Type 0
IsKeyOf (Passed key) (Some k) = arc_value k ≡ key
IsKeyOf (Passed key) None = ⊥
IsKeyOf _ k = k ≡ None
