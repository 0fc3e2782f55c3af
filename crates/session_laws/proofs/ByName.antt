-- Each law by its name. A proof in another crate imports it so:
--     use Rattle.session_laws.proofs.ByName.{each_step_ends}
use Rattle.std.proofs.Common.{refl, arith, ℕ, length, Option, Some, None}
use Rattle.std.specs.Prelude.{IfSome}
use Rattle.frame_view.specs.Frames.{IsFrame}
use Rattle.frame_view.specs.declared.Side.TheVariants.{Server}
use Rattle.session_values.specs.Errors.{fatal}
use Rattle.session_values.proofs.Alls.{OfSome}
use Rattle.mini_sql.specs.Statements.{Statement, statement}
use Rattle.session_laws.specs.Statements.{IsSpelled, StatementsAreSpelled}
use Rattle.session_laws.specs.Laws.{begins, EachStepEnds, FreshIsAtRest, FreshHasKey, StepKeepsKey, DiscardAllGivesFresh, StruckDiscardAllIsRefused, OnlyStatementsAreStruck, RepliesAreFrames, StatusesAreReports, ReportsTellValues}
use Rattle.session_laws.specs.Starts.{FreshIsReached, ReachedHasKey, FreshByNames, WelcomeIsFrames, StartErrorIsFrame, DiscardAllIsFrame, ReportsAreRead, WelcomeIsRead, StartErrorIsShort, ResetsAreRead, longest_start_frame}
use Rattle.session_laws.proofs.Spelled.{spelled}
use Rattle.session_laws.proofs.ReadyLast.{step-ends}
use Rattle.session_laws.proofs.Freshness.{fresh-at_rest, step-has_key, discard-fresh, discard-struck, only-statements}
use Rattle.session_laws.proofs.Reached.{reached-frames, reached-reports, reached-told, reached-key}
use Rattle.session_laws.proofs.Starting.{fresh-by_names, welcome-frames, report-read, welcome-read, start_error-short, resets-read}

-- ---- a statement

if-some : (n : ℕ) (o : Option Statement) → OfSome (IsSpelled n) o → IfSome o (λ x. IsSpelled n x)
if-some n None h = tt
if-some n (Some x) h = h

pub statements_are_spelled : StatementsAreSpelled
statements_are_spelled t h = if-some (length t) (statement t) (spelled t h)

-- ---- one step

pub each_step_ends : EachStepEnds
each_step_ends = step-ends

pub fresh_is_at_rest : FreshIsAtRest
fresh_is_at_rest = fresh-at_rest

pub fresh_has_key : FreshHasKey
fresh_has_key cat key s e = record { origin = s; is_fresh = e; defaults = refl }

pub step_keeps_key : StepKeepsKey
step_keeps_key = step-has_key

pub discard_all_gives_fresh : DiscardAllGivesFresh
discard_all_gives_fresh = discard-fresh

pub struck_discard_all_is_refused : StruckDiscardAllIsRefused
struck_discard_all_is_refused = discard-struck

pub only_statements_are_struck : OnlyStatementsAreStruck
only_statements_are_struck = only-statements

pub replies_are_frames : RepliesAreFrames
replies_are_frames = reached-frames

pub statuses_are_reports : StatusesAreReports
statuses_are_reports = reached-reports

pub reports_tell_values : ReportsTellValues
reports_tell_values = reached-told

-- ---- starts and resets

pub fresh_is_reached : FreshIsReached
fresh_is_reached cat key s l k e = begins l k e

pub reached_has_key : ReachedHasKey
reached_has_key = reached-key

pub fresh_by_names : FreshByNames
fresh_by_names = fresh-by_names

pub welcome_is_frames : WelcomeIsFrames
welcome_is_frames = welcome-frames

pub start_error_is_frame : StartErrorIsFrame
start_error_is_frame c = let h : IsFrame Server longest_start_frame (fatal c) = start_error-short c in record { of_type = h.of_type; size = (let l = h.size in omega (arith, l)) }

pub discard_all_is_frame : DiscardAllIsFrame
discard_all_is_frame = record { of_type = refl; size = omega arith }

pub reports_are_read : ReportsAreRead
reports_are_read = report-read

pub welcome_is_read : WelcomeIsRead
welcome_is_read = welcome-read

pub start_error_is_short : StartErrorIsShort
start_error_is_short = start_error-short

pub resets_are_read : ResetsAreRead
resets_are_read = resets-read
