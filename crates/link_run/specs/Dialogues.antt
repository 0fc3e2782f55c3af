-- The dialogues that make a link clean: the answer to a start, and a reset by DISCARD ALL
-- (PostgreSQL manual, "Message Flow", "Start-up"; "DISCARD").
use Rattle.std.specs.Prelude.{◌≡◌, ◌⊎◌, ℕ, Bool, true, false, Result, Ok, Err, Option, Some, None, ◌||◌, ◌&&◌, ◌==◌, if◌then◌else◌, bytes_eq, codes, List, [], ◌∷◌, ◌++◌, length}
use Rattle.std.specs.List.{flat_map, list_any, AllByRecursion}
use Rattle.bstr.specs.Text.{split_at}
use Rattle.memchr.specs.Find.{matches}
use Rattle.frame_view.specs.declared.Side.TheVariants.{Server}
use Rattle.frame_view.specs.declared.server.TheConstants.{AUTHENTICATION, BACKEND_KEY_DATA, COMMAND_COMPLETE, NOTICE_RESPONSE, PARAMETER_STATUS, READY_FOR_QUERY}
use Rattle.frame_view.specs.Frames.{FrameOf, IsFrame, spelling}
use Rattle.message_view.specs.declared.kinds.TheConstants.{ASKS_NOTHING, ASKS_CLEARTEXT, ASKS_MD5, IDLE}
use Rattle.message_view.specs.Bodies.{text}
use Rattle.message_view.specs.Messages.{ready_for_query}
use Rattle.message_view.specs.declared.ViewError.{ViewError}
use Rattle.message_view.specs.declared.views.KeyView.{KeyView}
use Rattle.message_view.specs.Reading.{authentication_of, key_of, status_of}
use Rattle.start_keys.specs.StartPairs.{Text}
use Rattle.param_track.specs.KeptReports.{KeptReport, fits, has_name, is_at_start, with_first}
use Rattle.param_track.specs.Reports.{Report}
use Rattle.session_run_laws.specs.Laws.{discard_all}
use Rattle.server_end.specs.Standing.{Standing, Moves}
use Rattle.link_run.specs.Links.{after_frame, after_frames}
use Rattle.link_run.specs.declared.reply.Answered.{Answered}
use Rattle.link_run.specs.declared.reply.Answered.TheVariants.{Nothing, Tag, All, Other}
use Rattle.link_run.specs.declared.reply.TheConstants.{MAX_REPLY}
use Rattle.link_run.specs.declared.sasl.TheConstants.{ASKS_SASL, SASL_CONTINUES, SASL_ENDS}

-- ---- the answer to a start

abbrev pub IsNotice : FrameOf → Type 0
IsNotice f = f.kind ≡ NOTICE_RESPONSE

abbrev pub LetsIn : FrameOf → Type 0
LetsIn f = (f.kind ≡ AUTHENTICATION) × (authentication_of f.body ≡ Ok (ASKS_NOTHING, []))

-- SCRAM-SHA-256 is among the mechanisms that are named, each with a zero byte behind it
unfoldable pub offers_scram : List ℕ → Bool
offers_scram names = list_any (λ name. bytes_eq name (codes "SCRAM-SHA-256")) (split_at names 1 0 (matches names (0 ∷ []) 0))

-- what a server says before AuthenticationOk
pub data Question : Type 0 where
  Password : Question
  Digest : Question
  Mechanism : Question
  Challenge : Question
  Proof : Question

abbrev pub IsSaid : Question → (kind : ℕ) → (more : List ℕ) → Type 0
IsSaid Password kind more = (kind ≡ ASKS_CLEARTEXT) × (more ≡ [])
IsSaid Digest kind more = (kind ≡ ASKS_MD5) × (length more ≡ 4)
IsSaid Mechanism kind more = (kind ≡ ASKS_SASL) × (offers_scram more ≡ true)
IsSaid Challenge kind more = kind ≡ SASL_CONTINUES
IsSaid Proof kind more = kind ≡ SASL_ENDS

-- an Authentication message that says it
pub record Says (question : Question) (f : FrameOf) : Type 0 where
  pub kind : f.kind ≡ AUTHENTICATION
  pub number : ℕ
  pub more : List ℕ
  pub body : authentication_of f.body ≡ Ok (number, more)
  pub said : IsSaid question number more

-- a notice, a report or the session's key
abbrev pub IsOfWelcome : FrameOf → Type 0
IsOfWelcome f = (f.kind ≡ NOTICE_RESPONSE) ⊎ ((f.kind ≡ PARAMETER_STATUS) ⊎ (f.kind ≡ BACKEND_KEY_DATA))

-- these are said, one after the other, with notices round them
abbrev pub AreSaid : List Question → List FrameOf → Type 0
AreSaid [] [] = Unit {0}
AreSaid [] (f ∷ fs) = IsNotice f × AreSaid [] fs
AreSaid (q ∷ qs) [] = ⊥
AreSaid (q ∷ qs) (f ∷ fs) = (IsNotice f × AreSaid (q ∷ qs) fs) ⊎ (Says q f × AreSaid qs fs)

-- the ways of asking: for nothing; for a password, or its digest; or by SCRAM
pub data Way : Type 0 where
  Trusts : Way
  ByPassword : Way
  ByDigest : Way
  ByScram : Way

abbrev pub questions_of : Way → List Question
questions_of Trusts = []
questions_of ByPassword = Password ∷ []
questions_of ByDigest = Digest ∷ []
questions_of ByScram = Mechanism ∷ Challenge ∷ Proof ∷ []

abbrev pub IsAsking : List FrameOf → Type 0
IsAsking frames = (way : Way) × AreSaid (questions_of way) frames

-- The whole answer to a start that is let in: what is asked, in one of these ways; AuthenticationOk; notices, reports and the session's key in any order;
-- and the one ReadyForQuery, which tells of no block, at its end.
pub record IsStartAnswer (replies : List FrameOf) : Type 0 where
  pub asking : List FrameOf
  pub lets_in : FrameOf
  pub welcome : List FrameOf
  pub whole : replies ≡ asking ++ (lets_in ∷ (welcome ++ ready_for_query IDLE ∷ []))
  pub is_asking : IsAsking asking
  pub is_let_in : LetsIn lets_in
  pub is_welcome : AllByRecursion IsOfWelcome welcome

-- what is kept of the reports of an answer to a start, where each can be read and they are of at most 64 names
abbrev pub added : List KeptReport → Result Report ViewError → Option (List KeptReport)
added kept (Ok r) = if fits kept r.0 then Some (with_first kept r) else None
added kept (Err fault) = None

abbrev pub reported_by : List KeptReport → FrameOf → Option (List KeptReport)
reported_by kept f = if f.kind == PARAMETER_STATUS then added kept (status_of f.body) else Some kept

abbrev pub reported_next : Option (List KeptReport) → (List KeptReport → Option (List KeptReport)) → Option (List KeptReport)
reported_next (Some kept) go = go kept
reported_next None go = None

abbrev pub reported_all : List KeptReport → List FrameOf → Option (List KeptReport)
reported_all kept [] = Some kept
reported_all kept (f ∷ fs) = reported_next (reported_by kept f) (λ k. reported_all k fs)

-- ---- the key of the server that an answer to a start tells

abbrev pub key_read : Result (ℕ × ℕ) ViewError → Result (Option KeyView) ViewError
key_read (Ok k) = Ok (Some (record { pid = k.0; secret = k.1 }))
key_read (Err fault) = Err fault

-- the key that was told, once one more frame has come: a BackendKeyData tells it, where it can be read
abbrev pub keyed_by : Option KeyView → FrameOf → Result (Option KeyView) ViewError
keyed_by key f = if f.kind == BACKEND_KEY_DATA then key_read (key_of f.body) else Ok key

abbrev pub keyed_next : Result (Option KeyView) ViewError → (Option KeyView → Result (Option KeyView) ViewError) → Result (Option KeyView) ViewError
keyed_next (Ok key) go = go key
keyed_next (Err fault) go = Err fault

abbrev pub keyed_all : Option KeyView → List FrameOf → Result (Option KeyView) ViewError
keyed_all key [] = Ok key
keyed_all key (f ∷ fs) = keyed_next (keyed_by key f) (λ k. keyed_all k fs)

-- The dialogue of a start tells this key: the last that a BackendKeyData of it told, or none where it has none.
abbrev pub TellsKey : List FrameOf → Option KeyView → Type 0
TellsKey fs key = keyed_all None fs ≡ Ok key

-- ---- the answer to a reset

-- notices and reports stand anywhere before the end
abbrev pub is_aside : ℕ → Bool
is_aside kind = kind == NOTICE_RESPONSE || kind == PARAMETER_STATUS

abbrev pub is_tag : FrameOf → Bool
is_tag f = f.kind == COMMAND_COMPLETE && bytes_eq f.body (text (codes "DISCARD ALL"))

abbrev pub is_idle : FrameOf → Bool
is_idle f = f.kind == READY_FOR_QUERY && bytes_eq f.body (IDLE ∷ [])

-- how far the answer has come with one frame more: its CommandComplete, then ReadyForQuery, and nothing after it
abbrev pub answered_by : Answered → FrameOf → Answered
answered_by Nothing f = if is_aside f.kind then Nothing else (if is_tag f then Tag else Other)
answered_by Tag f = if is_aside f.kind then Tag else (if is_idle f then All else Other)
answered_by All f = Other
answered_by Other f = Other

abbrev pub answered_by_all : Answered → List FrameOf → Answered
answered_by_all a [] = a
answered_by_all a (f ∷ fs) = answered_by_all (answered_by a f) fs

-- the whole answer to a reset
abbrev pub IsResetAnswer : List FrameOf → Type 0
IsResetAnswer fs = answered_by_all Nothing fs ≡ All

-- a ParameterStatus can be read, and names a parameter that is kept
abbrev pub names_kept : List KeptReport → Result (Text × Text) ViewError → Bool
names_kept kept (Ok report) = has_name kept report.0
names_kept kept (Err fault) = false

abbrev pub is_known : List KeptReport → FrameOf → Bool
is_known kept f = if f.kind == PARAMETER_STATUS then names_kept kept (status_of f.body) else true

abbrev pub are_known : List KeptReport → List FrameOf → Bool
are_known kept [] = true
are_known kept (f ∷ fs) = is_known kept f && are_known (after_frame kept f) fs

-- The whole dialogue of a reset of a link that keeps `kept`, from where it stood to where it stands and what it keeps then: the Query,
-- no byte more or less, and the whole frames of its answer, and nothing behind them. Each report of the answer is of a name that the
-- link keeps, and is kept; after it the values are those of the start.
pub record IsResetDialogue (start : Standing) (kept : List KeptReport) (now : Standing) (reports : List KeptReport) : Type 0 where
  pub answer : List FrameOf
  pub moves : Moves start (spelling discard_all) now (flat_map spelling answer)
  pub each : AllByRecursion (IsFrame Server MAX_REPLY) answer
  pub whole : IsResetAnswer answer
  pub known : are_known kept answer ≡ true
  pub told : reports ≡ after_frames kept answer
  pub back : is_at_start reports ≡ true
