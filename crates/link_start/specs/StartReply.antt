-- What a server answers to a start, frame by frame (PostgreSQL manual, "Message Flow", "Start-up").
use Rattle.std.specs.Prelude.{◌≡◌, ℕ, Bool, true, false, Result, Ok, Err, Option, Some, None, ◌||◌, ◌&&◌, ◌==◌, if◌then◌else◌, bytes_eq, List, [], ◌∷◌, ◌++◌}
use Rattle.frame_view.specs.declared.Side.TheVariants.{Server}
use Rattle.frame_view.specs.declared.server.TheConstants.{AUTHENTICATION, BACKEND_KEY_DATA, ERROR_RESPONSE, NOTICE_RESPONSE, PARAMETER_STATUS, READY_FOR_QUERY}
use Rattle.frame_view.specs.Frames.{FrameOf, Cut, Front, AFrame, Lacks, Faulty, front, frames, spelling}
use Rattle.message_view.specs.declared.kinds.TheConstants.{ASKS_NOTHING, ASKS_CLEARTEXT, ASKS_MD5, IDLE}
use Rattle.message_view.specs.declared.ViewError.{ViewError}
use Rattle.message_view.specs.declared.views.KeyView.{KeyView}
use Rattle.message_view.specs.Reading.{authentication_of}
use Rattle.param_track.specs.KeptReports.{KeptReport}
use Rattle.credentials.specs.Credentials.{CredentialOf}
use Rattle.credentials.specs.Exchanges.{ExchangeOf, exchange_of}
use Rattle.link_run.specs.Dialogues.{IsStartAnswer, offers_scram, reported_all, reported_by}
use Rattle.link_run.specs.declared.reply.TheConstants.{MAX_REPLY}
use Rattle.link_run.specs.declared.sasl.TheConstants.{ASKS_SASL, SASL_CONTINUES, SASL_ENDS}
use Rattle.link_start.specs.declared.start_reply.StartProgress.{StartProgress}
use Rattle.link_start.specs.declared.start_reply.StartProgress.TheVariants.{Nothing, Asked, Proved, LetIn, Ready, Refused, Other}
use Rattle.link_start.specs.declared.start_reply.ServerQuestion.{ServerQuestion}
use Rattle.link_start.specs.declared.start_reply.ServerQuestion.TheVariants.{Cleartext, Md5, Scram, Challenge, Unknown}
use Rattle.link_start.specs.Questions.{can_answer}
use Rattle.link_start.specs.declared.start_reply.TakeReportError.{TakeReportError}
use Rattle.link_start.specs.declared.start_reply.TakeReportError.TheVariants.{Unexpected, Memory}

-- ---- the question

abbrev pub bare : StartProgress → List ℕ → StartProgress
bare h [] = h
bare h (b ∷ bs) = Other

abbrev pub salted : List ℕ → StartProgress
salted (a ∷ b ∷ c ∷ d ∷ []) = Asked (Md5 (a ∷ b ∷ c ∷ d ∷ []))
salted other = Other

-- SASL is answered where SCRAM-SHA-256 is among its mechanisms
abbrev pub offered : Bool → StartProgress
offered true = Asked Scram
offered false = Asked (Unknown ASKS_SASL)

-- a cleartext question has nothing but its number, one for a digest has a salt of four bytes
abbrev pub asked_by : ℕ → List ℕ → StartProgress
asked_by kind more =
    if kind == ASKS_NOTHING then bare LetIn more
    else (if kind == ASKS_CLEARTEXT then bare (Asked Cleartext) more else (if kind == ASKS_MD5 then salted more else (if kind == ASKS_SASL then offered (offers_scram more) else Asked (Unknown kind))))

abbrev pub asked_part : Result (ℕ × List ℕ) ViewError → StartProgress
asked_part (Ok x) = asked_by x.0 x.1
asked_part (Err fault) = Other

-- what the body of an Authentication message says
abbrev pub asked : List ℕ → StartProgress
asked body = asked_part (authentication_of body)

abbrev pub only_let_in : StartProgress → StartProgress
only_let_in LetIn = LetIn
only_let_in Nothing = Other
only_let_in (Asked q) = Other
only_let_in Proved = Other
only_let_in Ready = Other
only_let_in Refused = Other
only_let_in Other = Other

-- ---- behind an answer

-- a challenge that continues the client's nonce
abbrev pub challenged : Option ExchangeOf → StartProgress
challenged (Some exchange) = Asked (Challenge exchange)
challenged None = Other

abbrev pub challenged_by : CredentialOf → ℕ → List ℕ → StartProgress
challenged_by c kind more = if kind == SASL_CONTINUES then challenged (exchange_of c more) else Other

-- the server's own proof, without which it lets nobody in
abbrev pub proved_by : ExchangeOf → ℕ → List ℕ → StartProgress
proved_by exchange kind more = if kind == SASL_ENDS && bytes_eq more exchange.proof then Proved else Other

-- only AuthenticationOk goes on; but of SCRAM the challenge first, and then the server's proof
abbrev pub followed_by : CredentialOf → ServerQuestion → ℕ → List ℕ → StartProgress
followed_by c Cleartext kind more = only_let_in (asked_by kind more)
followed_by c (Md5 salt) kind more = only_let_in (asked_by kind more)
followed_by c Scram kind more = challenged_by c kind more
followed_by c (Challenge exchange) kind more = proved_by exchange kind more
followed_by c (Unknown number) kind more = Other

abbrev pub followed_part : CredentialOf → ServerQuestion → Result (ℕ × List ℕ) ViewError → StartProgress
followed_part c q (Ok x) = followed_by c q x.0 x.1
followed_part c q (Err fault) = Other

abbrev pub followed : CredentialOf → ServerQuestion → List ℕ → StartProgress
followed c q body = followed_part c q (authentication_of body)

abbrev pub let_in_by : List ℕ → StartProgress
let_in_by body = only_let_in (asked body)

-- ---- frame by frame

abbrev pub refused : ℕ → StartProgress
refused kind = if kind == ERROR_RESPONSE then Refused else Other

abbrev pub is_idle : FrameOf → Bool
is_idle f = f.kind == READY_FOR_QUERY && bytes_eq f.body (IDLE ∷ [])

-- notices, reports and the session's key, in any order, and then ReadyForQuery
abbrev pub is_welcome : ℕ → Bool
is_welcome kind = kind == NOTICE_RESPONSE || (kind == PARAMETER_STATUS || kind == BACKEND_KEY_DATA)

abbrev pub welcomed : FrameOf → StartProgress
welcomed f = if is_welcome f.kind then LetIn else (if is_idle f then Ready else refused f.kind)

-- a notice may come at any time
abbrev pub on_authentication : StartProgress → FrameOf → StartProgress → StartProgress
on_authentication h f next = if f.kind == NOTICE_RESPONSE then h else (if f.kind == AUTHENTICATION then next else refused f.kind)

abbrev pub after_question : CredentialOf → ServerQuestion → FrameOf → StartProgress
after_question c q f = on_authentication (Asked q) f (followed c q f.body)

-- What stands behind a question that this user can't answer doesn't matter, as behind an error: however the bytes are cut, it is the
-- question that the start fails by.
abbrev pub heard_by : CredentialOf → StartProgress → FrameOf → StartProgress
heard_by c Nothing f = on_authentication Nothing f (asked f.body)
heard_by c (Asked q) f = if can_answer c q then after_question c q f else Asked q
heard_by c Proved f = on_authentication Proved f (let_in_by f.body)
heard_by c LetIn f = welcomed f
heard_by c Ready f = Other
heard_by c Refused f = Refused
heard_by c Other f = Other

abbrev pub heard_all : CredentialOf → StartProgress → List FrameOf → StartProgress
heard_all c h [] = h
heard_all c h (f ∷ fs) = heard_all c (heard_by c h f) fs

-- with these bytes behind, which are no whole frame: nothing may follow ReadyForQuery, and no faulty frame anything
abbrev pub if_lawful : StartProgress → Front → StartProgress
if_lawful h (Faulty fault) = Other
if_lawful h (AFrame kind body rest) = h
if_lawful h (Lacks n) = h

abbrev pub before : CredentialOf → StartProgress → List ℕ → StartProgress
before c Nothing rest = if_lawful Nothing (front Server MAX_REPLY rest)
before c (Asked q) rest = if can_answer c q then if_lawful (Asked q) (front Server MAX_REPLY rest) else Asked q
before c Proved rest = if_lawful Proved (front Server MAX_REPLY rest)
before c LetIn rest = if_lawful LetIn (front Server MAX_REPLY rest)
before c Ready rest = bare Ready rest
before c Refused rest = Refused
before c Other rest = Other

abbrev pub heard_cut : CredentialOf → Cut → StartProgress
heard_cut c cut = before c (heard_all c Nothing cut.frames) cut.rest

abbrev pub heard : CredentialOf → List ℕ → StartProgress
heard c bytes = heard_cut c (frames Server MAX_REPLY bytes)

-- what a start fails by
abbrev pub IsEnd : CredentialOf → StartProgress → Type 0
IsEnd c Nothing = ⊥
IsEnd c (Asked q) = can_answer c q ≡ false
IsEnd c Proved = ⊥
IsEnd c LetIn = ⊥
IsEnd c Ready = ⊥
IsEnd c Refused = Unit {0}
IsEnd c Other = Unit {0}

-- A cause that came stays one, whatever comes behind it, wherever the bytes are cut.
abbrev pub EndsAreHeard : Type 0
EndsAreHeard = (c : CredentialOf) (bytes more : List ℕ) → IsEnd c (heard c bytes) → heard c (bytes ++ more) ≡ heard c bytes

-- What is heard as a start, frame by frame and to its end, is an answer to a start by its grammar.
abbrev pub ReadyIsAnswer : Type 0
ReadyIsAnswer = (c : CredentialOf) (fs : List FrameOf) → heard_all c Nothing fs ≡ Ready → IsStartAnswer fs

-- ---- what is read in it

-- the first ErrorResponse
abbrev pub error_in : List FrameOf → List ℕ
error_in [] = []
error_in (f ∷ fs) = if f.kind == ERROR_RESPONSE then spelling f else error_in fs

abbrev pub Takes : Option (List KeptReport) → List KeptReport → Result (Unit {0}) TakeReportError → Type 0
Takes whole new (Ok u) = whole ≡ Some new
Takes whole new (Err Unexpected) = whole ≡ None
Takes whole new (Err Memory) = Unit {0}

abbrev pub TakesReport : List KeptReport → FrameOf → List KeptReport → Result (Unit {0}) TakeReportError → Type 0
TakesReport old f new r = Takes (reported_by old f) new r

abbrev pub TakesReports : List KeptReport → List FrameOf → List KeptReport → Result (Unit {0}) TakeReportError → Type 0
TakesReports old fs new r = Takes (reported_all old fs) new r
