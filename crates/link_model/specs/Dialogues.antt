-- The dialogue of a start: what is sent to a link's server, what it answers, and how far both have come
-- (PostgreSQL manual, "Message Flow", "Start-up").
use Rattle.std.specs.Prelude.{◌≡◌, ℕ, ◌+◌, ◌^◌, ◌<◌, List, [], ◌∷◌, ◌++◌, map, length, true, false, Option, Some, None, Result, Ok, Err, if◌then◌else◌}
use Rattle.std.specs.List.{flat_map, AllByRecursion}
use Rattle.frame_view.specs.declared.Side.TheVariants.{Server as FromServer}
use Rattle.frame_view.specs.Frames.{FrameOf, IsFrame, spelling}
use Rattle.session_run_laws.specs.declared.cause.Cause.{Cause}
use Rattle.session_run_laws.specs.Errors.{fatal}
use Rattle.session_run_laws.specs.Lawful.{IsLawfulCatalogue, IsClientKey}
use Rattle.session_run_laws.specs.State.{State, StartKeyOf, fresh}
use Rattle.session_run_laws.specs.Laws.{has_ready}
use Rattle.frame_view.specs.declared.client.TheConstants.{PASSWORD_MESSAGE}
use Rattle.link_model.specs.Stages.{Server, Auth, Question, Round, Stage, Before, Asked, Open, Closed, Packet, Starts, Sends, asks, no_auth, packets_bytes, is_answer, wrong_password, answers, MayTakeAll}
use Rattle.link_model.specs.Standing.{Standing, Moves}
use Rattle.link_model.specs.Starts.{start_body}
use Rattle.link_model.specs.Links.{IsFresh}

-- ---- what is sent, and what is answered

-- a message of the client's that answers a question
abbrev pub answer_message : List ℕ → FrameOf
answer_message body = record { kind = PASSWORD_MESSAGE; body = body }

abbrev pub answer_packets : List (List ℕ) → List Packet
answer_packets given = map (λ a. Sends false (answer_message a)) given

-- the StartupMessage of the key, and the answers to the server's questions, once there are any
abbrev pub start_packets : StartKeyOf → (given : List (List ℕ)) → List Packet
start_packets key given = Starts (start_body key) ∷ answer_packets given

-- all that a server that waits for them answers to them
abbrev pub start_replies : Server → Auth → StartKeyOf → List (List ℕ) → List FrameOf
start_replies v auth key given = answers v (Before auth) (start_packets key given)

-- Answers are given to questions alone.
abbrev pub AreToRounds : List (List ℕ) → List Round → Type 0
AreToRounds [] rounds = Unit {0}
AreToRounds (a ∷ given) [] = ⊥
AreToRounds (a ∷ given) (r ∷ rounds) = AreToRounds given rounds

abbrev pub AreToQuestions : List (List ℕ) → Auth → Type 0
AreToQuestions given auth = AreToRounds given auth.rounds

abbrev pub start_error : Result State Cause → Option FrameOf
start_error (Ok s) = None
start_error (Err c) = Some (fatal c)

-- the error by which the server refuses the start, if it does: that of the key's session, or that of a wrong answer
abbrev pub refusal_of : Option FrameOf → List Round → List (List ℕ) → Option FrameOf
refusal_of error [] given = error
refusal_of error (r ∷ rounds) [] = None
refusal_of error (r ∷ rounds) (a ∷ given) = if is_answer r.answer (answer_message a) then refusal_of error rounds given else Some wrong_password

abbrev pub start_refusal : Server → Auth → StartKeyOf → List (List ℕ) → Option FrameOf
start_refusal v auth key given = refusal_of (start_error (fresh v.catalogue key)) auth.rounds given

-- ---- a start under way

-- the questions of a server that waits for a StartupMessage
abbrev pub auth_of : Stage → Auth
auth_of (Before auth) = auth
auth_of (Asked start answer rest) = no_auth
auth_of (Open s) = no_auth
auth_of Closed = no_auth

-- it waits for its StartupMessage, with nothing under way
pub record IsNew (at : Standing) : Type 0 where
  pub stage : at.stage ≡ Before (auth_of at.stage)
  pub inbox : at.inbox ≡ []
  pub outbox : at.outbox ≡ []
  pub lawful : IsLawfulCatalogue at.server.catalogue

-- the packet's length fits its field
abbrev pub FitsPacket : Packet → Type 0
FitsPacket (Starts start) = 8 + length start < 2 ^ 32
FitsPacket (Sends struck f) = 4 + length f.body < 2 ^ 32

-- Since its server was new it was sent a beginning of these packets, and these bytes came.
pub record IsStarting (began : Standing) (key : StartKeyOf) (given : List (List ℕ)) (unsent : List ℕ) (now : Standing) (received : List ℕ) : Type 0 where
  pub sent : List ℕ
  pub moves : Moves began sent now received
  pub all : sent ++ unsent ≡ packets_bytes (start_packets key given)
  pub fits : AllByRecursion FitsPacket (start_packets key given)
  pub to_questions : began.follows ≡ true → AreToQuestions given (auth_of began.stage)

-- ---- laws

abbrev pub IsShortReply : FrameOf → Type 0
IsShortReply f = IsFrame FromServer 65536 f

abbrev pub IsInFrame : Question → Type 0
IsInFrame q = IsShortReply (asks q)

-- each question, and what is told behind them, is such a frame
abbrev pub AsksInFrame : Auth → Type 0
AsksInFrame auth = AllByRecursion (λ r. IsInFrame r.question) auth.rounds × AllByRecursion IsInFrame auth.told

-- All that is answered is whole frames of at most 65,536 bytes, where the questions are.
abbrev pub StartRepliesAreFrames : Type 0
StartRepliesAreFrames = (v : Server) (auth : Auth) (key : StartKeyOf) (given : List (List ℕ)) → IsLawfulCatalogue v.catalogue → IsClientKey key → 0 < length key.dbname
    → AsksInFrame auth → AreToQuestions given auth → AllByRecursion IsShortReply (start_replies v auth key given)

-- Packets of a start, which a server took, are the first of those that were sent.
pub record SplitsPackets (ps taken : List Packet) (rest : List ℕ) : Type 0 where
  pub more : List Packet
  pub all : ps ≡ taken ++ more
  pub bytes : rest ≡ packets_bytes more

abbrev pub StartPacketsSplit : Type 0
StartPacketsSplit = (v : Server) (auth : Auth) (key : StartKeyOf) (given : List (List ℕ)) (taken : List Packet) (rest : List ℕ) → AllByRecursion FitsPacket (start_packets key given) → MayTakeAll v (Before auth) taken
    → packets_bytes (start_packets key given) ≡ packets_bytes taken ++ rest → SplitsPackets (start_packets key given) taken rest

-- These frames, and the beginning of more, are a front of what the server answers.
pub record IsTold (replies got : List FrameOf) (tail : List ℕ) : Type 0 where
  pub more : List FrameOf
  pub lost : List ℕ
  pub frames : replies ≡ got ++ more
  pub bytes : tail ++ lost ≡ flat_map spelling more

abbrev pub StartsAreTold : Type 0
StartsAreTold = (limit : ℕ) (began now : Standing) (key : StartKeyOf) (given : List (List ℕ)) (unsent received tail : List ℕ) (got : List FrameOf) → limit < 2 ^ 32 → began.follows ≡ true → IsNew began
    → IsStarting began key given unsent now received
    → AllByRecursion (IsFrame FromServer limit) (start_replies began.server (auth_of began.stage) key given) → AllByRecursion (IsFrame FromServer limit) got
    → received ≡ flat_map spelling got ++ tail → IsTold (start_replies began.server (auth_of began.stage) key given) got tail

-- Where nothing else came than whole frames, a ReadyForQuery among them, the server opened the key's fresh session, and has
-- nothing more to say.
abbrev pub StartedIsFresh : Type 0
StartedIsFresh = (limit : ℕ) (began now : Standing) (key : StartKeyOf) (given : List (List ℕ)) (got : List FrameOf) → limit < 2 ^ 32 → began.follows ≡ true → IsNew began
    → IsClientKey key → 0 < length key.dbname → IsStarting began key given [] now (flat_map spelling got)
    → AllByRecursion (IsFrame FromServer limit) (start_replies began.server (auth_of began.stage) key given) → AllByRecursion (IsFrame FromServer limit) got
    → has_ready got ≡ true → IsFresh now key
