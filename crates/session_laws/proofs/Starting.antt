-- What a session begins with, and what its welcome, its refusal and a reset are read as.
use Rattle.session_values.specs.State.{started_over}
use Rattle.std.proofs.Common.{◌≡◌, ℕ, suc, ◌≤◌, false, List, [], ◌∷◌, length, length-append, Ok, Err, refl, sym, ap, ap₂, ◌∙◌, arith}
use Rattle.std.specs.Prelude.{if◌then◌else◌}
use Rattle.std.specs.List.{AllZip}
use Rattle.message_view.specs.declared.kinds.TheConstants.{IDLE}
use Rattle.frame_view.specs.declared.frames.TheConstants.{MAX_FRAME}
use Rattle.frame_view.specs.Frames.{FrameOf, IsFrame}
use Rattle.frame_view.specs.declared.Side.TheVariants.{Server}
use Rattle.message_view.specs.Bodies.{text, HasNoZero}
use Rattle.message_view.specs.Messages.{parameter_status, backend_key_data, ready_for_query}
use Rattle.message_view.specs.Reading.{status_of}
use Rattle.mini_sql.specs.Words.{Text}
use Rattle.session_values.specs.declared.parameter.Parameter.{Parameter}
use Rattle.session_values.specs.declared.parameter.Parameter.TheVariants.{ApplicationName, ClientEncoding, DateStyle, IntegerDatetimes, IntervalStyle, ServerEncoding, ServerVersion, StandardConformingStrings, TimeZone, ExtraFloatDigits, SearchPath, StatementTimeout}
use Rattle.session_values.specs.declared.cause.Cause.TheVariants.{MalformedMessage, NotSupported, InvalidValue, InTransaction, Aborted, NoStatement, NoPortal, NoDatabase, Syntax, ColumnTwice, NoColumn, NoParameter, NoTable, NoPlaceholder, PortalExists, StatementExists, TableExists, PortalIsDone, FixedParameter, Cancelled}
use Rattle.session_values.specs.Parameters.{reported_parameters, name, defaults}
use Rattle.session_values.specs.State.{State, CatalogueOf, StartKeyOf, Answer, fresh, all_reports, reports_from, set_all, started, has_text}
use Rattle.session_laws.specs.Laws.{IsSent, Reaches, begins, steps, IsReport, after_replies, discard_all}
use Rattle.session_laws.specs.Starts.{FreshByNames, WelcomeIsFrames, ReportsAreRead, WelcomeIsRead, StartErrorIsShort, ResetsAreRead, longest_start_frame}
use Rattle.session_values.proofs.Alls.{all-as, all-append, plain-text}
use Rattle.session_laws.proofs.Bodies.{read-status, tested_bytes}
use Rattle.session_laws.proofs.GoodValues.{IsSetting, AreSettings}
use Rattle.session_laws.proofs.Handling.{name-short}
use Rattle.session_laws.proofs.Freshness.{discard-fresh}
use Rattle.session_laws.proofs.Telling.{reports-are, all_reports-are, report-frame}
use Rattle.session_laws.proofs.Reached.{reached-key, reached-lawful, reached-told, origin-settings}

-- ---- keys

pub fresh-by_names : FreshByNames
unfolding fresh started_over
fresh-by_names cat key other d p =
    ap₂ (λ (n : Text) (ps : List (Text × Text)). if has_text cat.databases n then started (set_all (defaults cat.version) (defaults cat.version) ps) else Err NoDatabase) d p

-- ---- the welcome is whole frames

key-frame : (pid secret : ℕ) → IsFrame Server MAX_FRAME (backend_key_data pid secret)
key-frame pid secret = record { of_type = refl; size = omega arith }

ready-frame : IsFrame Server MAX_FRAME (ready_for_query IDLE)
ready-frame = record { of_type = refl; size = omega arith }

pub welcome-frames : WelcomeIsFrames
welcome-frames cat key s pid secret r =
    let h = reached-lawful cat key s r in
    all-append (IsFrame Server MAX_FRAME) (all_reports s) (backend_key_data pid secret ∷ ready_for_query IDLE ∷ []) (all-as IsReport (IsFrame Server MAX_FRAME) report-frame (all_reports s) (all_reports-are s.reported h.reported)) (key-frame pid secret, (ready-frame, tt))

-- ---- short frames

name-plain : (p : Parameter) → HasNoZero (name p)
name-plain ApplicationName = plain-text (name ApplicationName) refl
name-plain ClientEncoding = plain-text (name ClientEncoding) refl
name-plain DateStyle = plain-text (name DateStyle) refl
name-plain IntegerDatetimes = plain-text (name IntegerDatetimes) refl
name-plain IntervalStyle = plain-text (name IntervalStyle) refl
name-plain ServerEncoding = plain-text (name ServerEncoding) refl
name-plain ServerVersion = plain-text (name ServerVersion) refl
name-plain StandardConformingStrings = plain-text (name StandardConformingStrings) refl
name-plain TimeZone = plain-text (name TimeZone) refl
name-plain ExtraFloatDigits = plain-text (name ExtraFloatDigits) refl
name-plain SearchPath = plain-text (name SearchPath) refl
name-plain StatementTimeout = plain-text (name StatementTimeout) refl

report-body : (p : Parameter) (v : Text) → length v ≤ 63 → length (parameter_status (name p) v).body ≤ 128
report-body p v h = omega (arith, length-append (text (name p)) (text v), length-append (name p) (0 ∷ []), length-append v (0 ∷ []), name-short p)

pub report-read : ReportsAreRead
report-read f r = (
  ap (λ (g : FrameOf). status_of g.body) r.is ∙ read-status (name r.parameter) r.value (name-plain r.parameter) r.plain,
  (let l = report-body r.parameter r.value r.short in let e = ap (λ (g : FrameOf). length g.body) r.is in omega (arith, l, e)),
)

report-small : (f : FrameOf) → IsReport f → IsFrame Server longest_start_frame f
report-small f r = let e = r.is in rw e (record { of_type = refl; size = (let l = report-body r.parameter r.value r.short in omega (arith, l)) })

zip-length : {A B : Type 0} (R : A → B → Type 0) (xs : List A) (ys : List B) → AllZip R xs ys → length xs ≡ length ys
zip-length R [] [] h = refl
zip-length R [] (y ∷ ys) h = absurd h
zip-length R (x ∷ xs) [] h = absurd h
zip-length R (x ∷ xs) (y ∷ ys) h = ap suc (zip-length R xs ys h.1)

pub welcome-read : WelcomeIsRead
welcome-read cat key s pid secret r =
    let h = reached-lawful cat key s r in
    let rs = all_reports-are s.reported h.reported in
    record {
      nine = sym (zip-length IsSetting reported_parameters s.reported h.reported);
      are_reports = rs;
      short = all-append (IsFrame Server longest_start_frame) (all_reports s) (backend_key_data pid secret ∷ ready_for_query IDLE ∷ []) (all-as IsReport (IsFrame Server longest_start_frame) report-small (all_reports s) rs) (record { of_type = refl; size = omega arith }, (record { of_type = refl; size = omega arith }, tt));
    }

pub start_error-short : StartErrorIsShort
start_error-short MalformedMessage = record { of_type = refl; size = omega arith }
start_error-short NotSupported = record { of_type = refl; size = omega arith }
start_error-short InvalidValue = record { of_type = refl; size = omega arith }
start_error-short InTransaction = record { of_type = refl; size = omega arith }
start_error-short Aborted = record { of_type = refl; size = omega arith }
start_error-short NoStatement = record { of_type = refl; size = omega arith }
start_error-short NoPortal = record { of_type = refl; size = omega arith }
start_error-short NoDatabase = record { of_type = refl; size = omega arith }
start_error-short Syntax = record { of_type = refl; size = omega arith }
start_error-short ColumnTwice = record { of_type = refl; size = omega arith }
start_error-short NoColumn = record { of_type = refl; size = omega arith }
start_error-short NoParameter = record { of_type = refl; size = omega arith }
start_error-short NoTable = record { of_type = refl; size = omega arith }
start_error-short NoPlaceholder = record { of_type = refl; size = omega arith }
start_error-short PortalExists = record { of_type = refl; size = omega arith }
start_error-short StatementExists = record { of_type = refl; size = omega arith }
start_error-short TableExists = record { of_type = refl; size = omega arith }
start_error-short PortalIsDone = record { of_type = refl; size = omega arith }
start_error-short FixedParameter = record { of_type = refl; size = omega arith }
start_error-short Cancelled = record { of_type = refl; size = omega arith }

-- ---- resets

discard-sent : IsSent discard_all
discard-sent = record { whole = record { of_type = refl; size = omega arith }; bytes = tested_bytes discard_all.body refl }

origin-of : (cat : CatalogueOf) (key : StartKeyOf) (s origin : State) → Reaches cat key s → fresh cat key ≡ Ok origin → AreSettings origin.defaults
origin-of cat key s origin (begins l k e) o = origin-settings cat key origin l k o
origin-of cat key _ origin (steps {s} struck f r h) o = origin-of cat key s origin r o

pub resets-read : ResetsAreRead
resets-read cat key s origin r e rest =
    let k = reached-key cat key s r in
    let d = discard-fresh cat key s origin k e rest in
    let settings = origin-of cat key s origin r e in
    let rs = reports-are origin.defaults s.reported settings in
    let t = reached-told cat key s false discard_all r discard-sent in
    record {
      short = (record { of_type = refl; size = omega arith }, all-append (IsFrame Server longest_start_frame) (reports_from reported_parameters origin.defaults s.reported) (ready_for_query IDLE ∷ []) (all-as IsReport (IsFrame Server longest_start_frame) report-small (reports_from reported_parameters origin.defaults s.reported) rs) (record { of_type = refl; size = omega arith }, tt));
      told = sym (sym (ap (λ (a : Answer). a.next.reported) d) ∙ t ∙ ap (λ (a : Answer). after_replies s.reported a.replies) d);
    }
