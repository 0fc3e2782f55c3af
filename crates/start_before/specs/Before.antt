-- A server from its StartupMessage on as it was before a server asked in rounds: it asks for nothing, or for one text (PostgreSQL manual,
-- "Message Flow", "Start-up"). And the law that such servers are as they were.
use Rattle.std.specs.Prelude.{◌≡◌, ℕ, List, [], ◌∷◌, ◌++◌, Result, Ok, Err, Bool, false, ◌==◌, if◌then◌else◌, bytes_eq}
use Rattle.frame_view.specs.declared.client.TheConstants.{PASSWORD_MESSAGE}
use Rattle.frame_view.specs.Frames.{FrameOf}
use Rattle.message_view.specs.declared.ViewError.{ViewError}
use Rattle.message_view.specs.Bodies.{Text, HasNoZero, text}
use Rattle.message_view.specs.Messages.{authentication}
use Rattle.message_view.specs.Reading.{password_of}
use Rattle.session_run_laws.specs.declared.cause.Cause.{Cause}
use Rattle.session_run_laws.specs.Errors.{fatal}
use Rattle.session_run_laws.specs.State.{State}
use Rattle.session_run_laws.specs.Step.{step}
use Rattle.session_run_laws.specs.Service.{welcome}
use Rattle.link_model.specs.Stages as rounds
use Rattle.link_model.specs.Stages.{Server, Packet, Starts, Sends, asks_once, let_in, no_auth, started_by, wrong_password}

-- what a server asks of a client that starts: nothing, or a password (the kind of the question, and what follows it), of which one answer
-- is right
pub data Auth : Type 0 where
  NoAuth : Auth
  Asks : (kind : ℕ) → (more : List ℕ) → (answer : Text) → Auth

-- A server waits for a StartupMessage; or, having read one, for the answer to its question; or its session is open; or it has refused the
-- client.
pub data Stage : Type 0 where
  Before : Auth → Stage
  Asked : (start : List ℕ) → (answer : Text) → Stage
  Open : State → Stage
  Closed : Stage

-- ---- a server's turn

pub record Turn : Type 0 where
  pub next : Stage
  pub replies : List FrameOf

abbrev pub turns : Stage → List FrameOf → Turn
turns s rs = record { next = s; replies = rs }

-- AuthenticationOk, and then the welcome of a fresh session or the error of its start
abbrev pub opened : Server → Result State Cause → Turn
opened v (Ok s) = turns (Open s) (let_in ∷ welcome s v.pid v.secret)
opened v (Err c) = turns Closed (let_in ∷ fatal c ∷ [])

abbrev pub opens : Server → List ℕ → Turn
opens v start = opened v (started_by v.catalogue start)

abbrev pub begins : Server → Auth → List ℕ → Turn
begins v NoAuth start = opens v start
begins v (Asks kind more answer) start = turns (Asked start answer) (authentication kind more ∷ [])

abbrev pub is_text : Text → Result Text ViewError → Bool
is_text answer (Ok given) = bytes_eq given answer
is_text answer (Err fault) = false

-- a PasswordMessage of the right answer
abbrev pub is_answer : Text → FrameOf → Bool
is_answer answer f = if f.kind == PASSWORD_MESSAGE then is_text answer (password_of f.body) else false

abbrev pub hears : Server → List ℕ → Text → FrameOf → Turn
hears v start answer f = if is_answer answer f then opens v start else turns Closed (wrong_password ∷ [])

abbrev pub serve : Server → Stage → Packet → Turn
serve v (Before auth) (Starts start) = begins v auth start
serve v (Before auth) (Sends struck f) = turns (Before auth) []
serve v (Asked start answer) (Starts _) = turns (Asked start answer) []
serve v (Asked start answer) (Sends struck f) = hears v start answer f
serve v (Open s) (Starts _) = turns (Open s) []
serve v (Open s) (Sends struck f) = turns (Open (step v.catalogue s struck f).next) (step v.catalogue s struck f).replies
serve v Closed p = turns Closed []

-- ---- many packets

abbrev pub after : Server → Stage → List Packet → Stage
after v s [] = s
after v s (p ∷ ps) = after v (serve v s p).next ps

abbrev pub answers : Server → Stage → List Packet → List FrameOf
answers v s [] = []
answers v s (p ∷ ps) = (serve v s p).replies ++ answers v (serve v s p).next ps

-- ---- the law

-- what it asks, as rounds
abbrev pub in_rounds : Auth → rounds.Auth
in_rounds NoAuth = no_auth
in_rounds (Asks kind more answer) = asks_once kind more (text answer)

abbrev pub stage_in_rounds : Stage → rounds.Stage
stage_in_rounds (Before auth) = rounds.Before (in_rounds auth)
stage_in_rounds (Asked start answer) = rounds.Asked start (text answer) no_auth
stage_in_rounds (Open s) = rounds.Open s
stage_in_rounds Closed = rounds.Closed

-- a message can spell the right answer
abbrev pub IsSpellable : Auth → Type 0
IsSpellable NoAuth = Unit {0}
IsSpellable (Asks kind more answer) = HasNoZero answer

-- It answers the same to whatever it takes, and comes to the same stage.
pub record IsSame (v : Server) (auth : Auth) (ps : List Packet) : Type 0 where
  pub replies : rounds.answers v (rounds.Before (in_rounds auth)) ps ≡ answers v (Before auth) ps
  pub next : rounds.after v (rounds.Before (in_rounds auth)) ps ≡ stage_in_rounds (after v (Before auth) ps)

abbrev pub StartsAreAsBefore : Type 0
StartsAreAsBefore = (v : Server) (auth : Auth) (ps : List Packet) → IsSpellable auth → IsSame v auth ps
