-- The start of a link: what it may begin with, how far it has come, and what it ends with.
use Rattle.std.specs.Prelude.{◌≡◌, ◌⊎◌, ℕ, ◌+◌, ◌-◌, ◌*◌, ◌^◌, ◌<◌, ◌≤◌, length, true, false, Err, Option, Some, None, List, [], ◌∷◌}
use Rattle.std.specs.Borrow.{Bor}
use Rattle.frame_view.specs.Frames.{FrameOf, frames, spelling}
use Rattle.frame_view.specs.declared.Side.TheVariants.{Server}
use Rattle.frame_view.specs.declared.server.TheConstants.{ERROR_RESPONSE}
use Rattle.message_view.specs.declared.ViewError.{ViewError}
use Rattle.message_view.specs.declared.views.KeyView.{KeyView}
use Rattle.message_view.specs.Bodies.{Text}
use Rattle.session_values.specs.Lawful.{IsClientKey}
use Rattle.session_values.specs.State.{StartKeyOf, fresh}
use Rattle.credentials.specs.Credentials.{CredentialOf}
use Rattle.link_model.specs.Stages.{Server as TheServer, Auth, Question, Round, asks, let_in}
use Rattle.link_model.specs.Standing.{Standing, Moves}
use Rattle.link_model.specs.Dialogues.{IsNew, AsksInFrame, IsStarting, auth_of, start_error, start_refusal}
use Rattle.link_run.specs.Dialogues.{TellsKey, keyed_all, reported_all}
use Rattle.link_run.specs.Links.{LinkView}
use Rattle.link_run.specs.declared.reply.TheConstants.{MAX_REPLY}
use Rattle.link_start.specs.declared.start_reply.StartProgress.{StartProgress}
use Rattle.link_start.specs.declared.start_reply.StartProgress.TheVariants as heard
use Rattle.link_start.specs.declared.start_reply.ServerQuestion.{ServerQuestion}
use Rattle.link_start.specs.declared.start.TheConstants.{CHUNK, MAX_WELCOME}
use Rattle.link_start.specs.declared.start.StartCause.{StartCause}
use Rattle.link_start.specs.declared.start.StartCause.TheVariants.{Refused, Lost, Unanswerable, Unexpected, Memory, Turns, Late}
use Rattle.link_start.specs.Questions.{answer_to, answers_wanted}
use Rattle.link_start.specs.StartReply as spec

-- ---- what a start may begin with

-- What it tells without asking is its proof, and then it lets in.
abbrev pub TellsOn : CredentialOf → StartProgress → List Question → Type 0
TellsOn c h [] = spec.heard_by c h let_in ≡ heard.LetIn
TellsOn c h (q ∷ told) = (spec.heard_by c h (asks q) ≡ heard.Proved) × TellsOn c heard.Proved told

-- Each of its questions is one that a start has, where the one before has its right answer.
abbrev pub AsksOn : CredentialOf → Text → List Question → StartProgress → List Round → Type 0
AsksOn c user told h [] = TellsOn c h told
AsksOn c user told h (r ∷ rounds) =
    (question : ServerQuestion) × (spec.heard_by c h (asks r.question) ≡ heard.Asked question) × (answer_to c user question ≡ Some r.answer → AsksOn c user told (heard.Asked question) rounds)

-- of the user of this name, who starts with this credential
abbrev pub AsksQuestions : CredentialOf → Text → Auth → Type 0
AsksQuestions c user auth = AsksOn c user auth.told heard.Nothing auth.rounds

-- Its server waits for a StartupMessage, with nothing under way; and what it asks of this user are questions.
pub record IsStartable (c : CredentialOf) (user : Text) (at : Standing) : Type 0 where
  pub is_new : IsNew at
  pub in_frame : AsksInFrame (auth_of at.stage)
  pub questions : AsksQuestions c user (auth_of at.stage)

-- where the end follows
abbrev pub CanStart : CredentialOf → Text → Standing → Type 0
CanStart c user at = at.follows ≡ true → IsStartable c user at

-- whoever starts
abbrev pub CanStartAll : Standing → Type 0
CanStartAll at = (c : CredentialOf) (user : Text) → CanStart c user at

-- the key of a client, with a database
abbrev pub IsLinkKey : StartKeyOf → Type 0
IsLinkKey key = IsClientKey key × (0 < length key.dbname)

-- ---- the answers to a server's own questions

abbrev pub given_to : Option (List ℕ) → List (List ℕ) → List (List ℕ)
given_to (Some body) more = body ∷ more
given_to None more = []

-- the answer to the question that is heard, and those behind it
abbrev pub answers_heard : CredentialOf → Text → StartProgress → (ServerQuestion → List (List ℕ)) → List (List ℕ)
answers_heard c user (heard.Asked question) more = given_to (answer_to c user question) (more question)
answers_heard c user heard.Nothing more = []
answers_heard c user heard.Proved more = []
answers_heard c user heard.LetIn more = []
answers_heard c user heard.Ready more = []
answers_heard c user heard.Refused more = []
answers_heard c user heard.Other more = []

abbrev pub answers_from : CredentialOf → Text → StartProgress → List Round → List (List ℕ)
answers_from c user h [] = []
answers_from c user h (r ∷ rounds) = answers_heard c user (spec.heard_by c h (asks r.question)) (λ question. answers_from c user (heard.Asked question) rounds)

-- what this user answers to such a server, up to the first question that it can't answer
abbrev pub own_answers : CredentialOf → Text → Auth → List (List ℕ)
own_answers c user auth = answers_from c user heard.Nothing auth.rounds

-- The server refuses a start with this credential only as it refuses the key's session: it asks for nothing, or what the user answers
-- is right, or the user answers nothing.
abbrev pub IsLetIn : Standing → StartKeyOf → CredentialOf → Type 0
IsLetIn at key c = start_refusal at.server (auth_of at.stage) key (own_answers c key.user (auth_of at.stage)) ≡ start_error (fresh at.server.catalogue key)

-- ---- a start under way

-- the calls of an end that came to nothing
abbrev pub waits_of : Standing → ℕ
waits_of at = at.write_waits + at.read_waits

pub record StartView : Type 0 where
  pub end : Standing
  pub key : StartKeyOf
  pub number : ℕ
  pub started_at : ℕ
  -- so many answers were given
  pub answered : ℕ
  pub unsent : List ℕ
  pub received : List ℕ

abbrev pub start_view : Standing → StartKeyOf → ℕ → ℕ → ℕ → List ℕ → List ℕ → StartView
start_view end key number started_at answered unsent received = record { end = end; key = key; number = number; started_at = started_at; answered = answered; unsent = unsent; received = received }

-- they are this user's own answers to these questions, or the first of them
abbrev pub AreOwnFrom : CredentialOf → Text → StartProgress → List Round → List (List ℕ) → Type 0
AreOwnFrom c user h rounds [] = Unit {0}
AreOwnFrom c user h [] (a ∷ given) = ⊥
AreOwnFrom c user h (r ∷ rounds) (a ∷ given) =
    (question : ServerQuestion) × (spec.heard_by c h (asks r.question) ≡ heard.Asked question) × (answer_to c user question ≡ Some a) × AreOwnFrom c user (heard.Asked question) rounds given

abbrev pub AreOwn : CredentialOf → Text → Auth → List (List ℕ) → Type 0
AreOwn c user auth given = AreOwnFrom c user heard.Nothing auth.rounds given

-- Since its server was new it was sent the StartupMessage of the key, and this user's own answers to its questions.
pub record IsStartUnderWay (began : Standing) (c : CredentialOf) (v : StartView) : Type 0 where
  pub given : List (List ℕ)
  pub starting : IsStarting began v.key given v.unsent v.end v.received
  pub own : began.follows ≡ true → AreOwn c v.key.user (auth_of began.stage) given
  pub count : v.answered ≡ length given
  pub faults : began.faults ≤ v.end.faults

-- the end ended or faulted
abbrev pub IsLost : Standing → Standing → Type 0
IsLost old new = (new.lives ≡ false) ⊎ (old.faults < new.faults)

abbrev pub IsSameStart : StartView → StartView → Type 0
IsSameStart old new = (new.key ≡ old.key) × (new.number ≡ old.number) × (new.started_at ≡ old.started_at)

-- ---- what it ends with

-- all was sent, and what was received ends with ReadyForQuery
pub record IsWelcomed (c : CredentialOf) (v : StartView) : Type 0 where
  pub sent : v.unsent ≡ []
  pub ready : spec.heard c v.received ≡ heard.Ready

-- It was begun there as it may be, and is welcomed.
pub record IsDoneFrom (began : Standing) (c : CredentialOf) (v : StartView) : Type 0 where
  pub can_start : CanStart c v.key.user began
  pub key : IsLinkKey v.key
  pub under_way : IsStartUnderWay began c v
  pub welcomed : IsWelcomed c v

abbrev pub IsDone : StartView → Type 0
IsDone v = (began : Standing) × ((c : CredentialOf) × IsDoneFrom began c v)

-- A link comes of a whole dialogue alone, and keeps what was reported in it, and the key that it told.
pub record IsStarted (began : Standing) (c : CredentialOf) (l : LinkView) : Type 0 where
  pub received : List ℕ
  pub answered : ℕ
  pub under_way : IsStartUnderWay began c (start_view l.stands l.key l.number l.started_at answered [] received)
  pub ready : spec.heard c received ≡ heard.Ready
  pub reports : reported_all [] (frames Server MAX_REPLY received).frames ≡ Some l.reports
  pub tells_key : TellsKey (frames Server MAX_REPLY received).frames l.server_key

-- the words of this server's BackendKeyData, where they fit its fields
abbrev pub IsOwnKey : TheServer → Option KeyView → Type 0
IsOwnKey v key = v.pid < 2 ^ 32 → v.secret < 2 ^ 32 → key ≡ Some (record { pid = v.pid; secret = v.secret })

-- an ErrorResponse
pub record IsError (bytes : List ℕ) : Type 0 where
  pub frame : FrameOf
  pub kind : frame.kind ≡ ERROR_RESPONSE
  pub whole : bytes ≡ spelling frame

-- that by which such a server refuses the start
pub record IsRefusalOf (began : Standing) (c : CredentialOf) (key : StartKeyOf) (bytes : List ℕ) : Type 0 where
  pub frame : FrameOf
  pub refusal : start_refusal began.server (auth_of began.stage) key (own_answers c key.user (auth_of began.stage)) ≡ Some frame
  pub whole : bytes ≡ spelling frame

-- it asks what this user can't answer
abbrev pub LacksAnswer : Option (List ℕ) → Type 0 → Type 0
LacksAnswer (Some body) more = more
LacksAnswer None more = Unit {0}

abbrev pub LacksHeard : CredentialOf → Text → StartProgress → (ServerQuestion → Type 0) → Type 0
LacksHeard c user (heard.Asked question) more = LacksAnswer (answer_to c user question) (more question)
LacksHeard c user heard.Nothing more = ⊥
LacksHeard c user heard.Proved more = ⊥
LacksHeard c user heard.LetIn more = ⊥
LacksHeard c user heard.Ready more = ⊥
LacksHeard c user heard.Refused more = ⊥
LacksHeard c user heard.Other more = ⊥

abbrev pub LacksFrom : CredentialOf → Text → StartProgress → List Round → Type 0
LacksFrom c user h [] = ⊥
LacksFrom c user h (r ∷ rounds) = LacksHeard c user (spec.heard_by c h (asks r.question)) (λ question. LacksFrom c user (heard.Asked question) rounds)

abbrev pub IsUnanswerable : CredentialOf → Text → Auth → Type 0
IsUnanswerable c user auth = LacksFrom c user heard.Nothing auth.rounds

-- why an end isn't read or written: it is lost, and the call moved nothing
abbrev pub IsEndCause : Standing → Standing → StartCause → Type 0
IsEndCause old new Lost = Moves old [] new [] × IsLost old new
IsEndCause old new Memory = Unit {0}
IsEndCause old new (Refused error) = ⊥
IsEndCause old new (Unanswerable question) = ⊥
IsEndCause old new Unexpected = ⊥
IsEndCause old new Turns = ⊥
IsEndCause old new Late = ⊥

-- Since then some bytes were sent and these came, and what came says so.
pub record CameAs (began now : Standing) (Says : List ℕ → Type 0) : Type 0 where
  pub sent : List ℕ
  pub received : List ℕ
  pub moves : Moves began sent now received
  pub says : Says received

abbrev pub answer_in : List ℕ → List FrameOf
answer_in received = (frames Server MAX_REPLY received).frames

-- the first ErrorResponse in it is this one
abbrev pub IsErrorHeard : CredentialOf → List ℕ → List ℕ → Type 0
IsErrorHeard c error received = (spec.heard c received ≡ heard.Refused) × (error ≡ spec.error_in (answer_in received)) × IsError error

-- it asks this, which this user can't answer
abbrev pub IsUnanswerableHeard : CredentialOf → Text → ServerQuestion → List ℕ → Type 0
IsUnanswerableHeard c user question received = (spec.heard c received ≡ heard.Asked question) × (answer_to c user question ≡ None)

-- More of the answer is to come: of a question only once it is answered.
abbrev pub IsWaiting : StartProgress → (ServerQuestion → Type 0) → Type 0
IsWaiting heard.Nothing Answered = Unit {0}
IsWaiting (heard.Asked question) Answered = Answered question
IsWaiting heard.Proved Answered = Unit {0}
IsWaiting heard.LetIn Answered = Unit {0}
IsWaiting heard.Ready Answered = ⊥
IsWaiting heard.Refused Answered = ⊥
IsWaiting heard.Other Answered = ⊥

-- so many answers are all that the questions up to this one want
abbrev pub IsAnsweredBy : ℕ → ServerQuestion → Type 0
IsAnsweredBy count question = answers_wanted question ≤ count

-- a report can't be read, more than 64 names are reported, or the key can't be read
abbrev pub IsUnreadable : List ℕ → Type 0
IsUnreadable received = (reported_all [] (answer_in received) ≡ None) ⊎ ((fault : ViewError) × (keyed_all None (answer_in received) ≡ Err fault))

-- more bytes than a welcome has, and more of the answer is to come
abbrev pub IsTooLong : CredentialOf → List ℕ → Type 0
IsTooLong c received = (MAX_WELCOME < length received) × IsWaiting (spec.heard c received) (λ question. Unit {0})

-- something else; or a whole welcome that can't be read; or one that is too long
abbrev pub IsUnexpectedHeard : CredentialOf → List ℕ → Type 0
IsUnexpectedHeard c received = (spec.heard c received ≡ heard.Other) ⊎ (((spec.heard c received ≡ heard.Ready) × IsUnreadable received) ⊎ IsTooLong c received)

-- By its cause: what came says it, over an end of any kind; and an end that follows refuses, or asks what can't be answered, only as its
-- server does, and says nothing unexpected. Of memory no contract says why; of turns `HasTried` does, and of lateness the gate.
abbrev pub IsStartCause : Standing → Standing → CredentialOf → StartKeyOf → StartCause → Type 0
IsStartCause began now c key (Refused error) = CameAs began now (IsErrorHeard c error) × (began.follows ≡ true → IsRefusalOf began c key error)
IsStartCause began now c key Lost = CameAs began now (λ _. IsLost began now)
IsStartCause began now c key (Unanswerable question) = CameAs began now (IsUnanswerableHeard c key.user question) × (began.follows ≡ true → IsUnanswerable c key.user (auth_of began.stage))
IsStartCause began now c key Unexpected = CameAs began now (IsUnexpectedHeard c) × (began.follows ≡ true → ⊥)
IsStartCause began now c key Memory = Unit {0}
IsStartCause began now c key Turns = Unit {0}
IsStartCause began now c key Late = Unit {0}

-- ---- how long it goes on

-- So many turns were tried in vain since then: in each of them a write or a read came to nothing at that time. And what came isn't the
-- whole answer, nor does it say why the start should fail.
pub record HasTried (began : Standing) (c : CredentialOf) (key : StartKeyOf) (now : Standing) (turns : ℕ) : Type 0 where
  pub given : List (List ℕ)
  pub unsent : List ℕ
  pub received : List ℕ
  pub starting : IsStarting began key given unsent now received
  pub tries : turns + waits_of began ≤ waits_of now
  pub waits : IsWaiting (spec.heard c received) (IsAnsweredBy (length given))

-- the bytes that an end accepted and gave
abbrev pub moved_of : Standing → ℕ
moved_of at = length at.accepted + length at.given

-- By the gate's count of turns, then and now: no more were taken than so many, and one for each byte that was moved.
abbrev pub TakesTurns : Standing → Standing → ℕ → ℕ → ℕ → Type 0
TakesTurns began now then_at now_at turns = now_at + moved_of began ≤ then_at + turns + moved_of now

-- What came since then is at most the longest welcome, and one read more.
abbrev pub IsBounded : Standing → Standing → Type 0
IsBounded began now = length now.given ≤ length began.given + (MAX_WELCOME + CHUNK)

-- At most one call that came to nothing in each turn taken.
abbrev pub IsStartPaced : Standing → Standing → ℕ → ℕ → Type 0
IsStartPaced began now then_at now_at = waits_of now + then_at ≤ waits_of began + now_at

-- The last of them gave what was waited for: nothing is read behind it.
abbrev pub IsStartPacedToEnd : Standing → Standing → ℕ → ℕ → Type 0
IsStartPacedToEnd began now then_at now_at = waits_of now + then_at < waits_of began + now_at

-- ---- what the code counts

-- How many bytes may still be moved, at most: those up to the longest welcome, those unsent, and those of two answers until they are given.
abbrev pub bytes_left : StartView → ℕ
bytes_left v = (MAX_WELCOME - length v.received) + (length v.unsent + (2 - v.answered) * 2 ^ 33)

-- whatever comes of a call, no count falls
abbrev pub CountsOn : StartView → StartView → Type 0
CountsOn old new = (waits_of old.end ≤ waits_of new.end) × (moved_of old.end ≤ moved_of new.end)

-- more of the answer is to come
abbrev pub IsWaitingStart : CredentialOf → StartView → Type 0
IsWaitingStart c v = IsWaiting (spec.heard c v.received) (IsAnsweredBy v.answered)

-- a call that came to nothing leaves bytes that are to be sent
abbrev pub WritesOnce : StartView → StartView → Type 0
WritesOnce old new = (waits_of new.end ≤ waits_of old.end + 1) × (new.unsent ≡ [] → waits_of new.end ≡ waits_of old.end)

-- or what was received as it was
abbrev pub ReadsOnce : StartView → StartView → Type 0
ReadsOnce old new = (waits_of new.end ≡ waits_of old.end) ⊎ ((waits_of new.end ≡ waits_of old.end + 1) × (new.received ≡ old.received))

-- what is answered, as the code has it
abbrev pub shown : Option (Bor (List ℕ)) → Option Text
shown (Some text) = Some text.now
shown None = None
