-- What is kept of a session's reports follows the values that it has told.
use Rattle.std.proofs.Common.{◌≡◌, arith, length, map, ◌++◌, Bool, true, false, List, [], ◌∷◌, refl, ap, ◌∙◌, Result, Ok, Err}
use Rattle.std.specs.Prelude.{◌==◌, if◌then◌else◌, bytes_eq}
use Rattle.frame_view.specs.declared.server.TheConstants.{PARAMETER_STATUS}
use Rattle.frame_view.specs.Frames.{FrameOf}
use Rattle.message_view.specs.declared.ViewError.{ViewError}
use Rattle.message_view.specs.declared.kinds.TheConstants.{IDLE}
use Rattle.message_view.specs.Messages.{backend_key_data, parameter_status, ready_for_query}
use Rattle.message_view.specs.Reading.{status_of}
use Rattle.start_keys.specs.StartPairs.{Text}
use Rattle.session_values.specs.declared.parameter.Parameter.{Parameter}
use Rattle.session_values.specs.Parameters.{reported_parameters, name}
use Rattle.session_values.specs.State.{all_reports_from}
use Rattle.session_run_laws.specs.Laws.{with_report, reported_by, after_reply, after_replies}
use Rattle.param_track.specs.KeptReports.{KeptReport, first_told, told, kept_of, with_told}
use Rattle.link_run.specs.Links.{reports_with, kept_by, told_by, after_frame, after_frames, start_report, WelcomesAreTheSessions}

with-one : (ps : List Parameter) (start now : List Text) (n v : Text) → with_told (kept_of (reports_with ps start) now) (n, v) ≡ kept_of (reports_with ps start) (with_report ps now n v)
with-one [] start now n v = refl
with-one (p ∷ ps) [] now n v = refl
with-one (p ∷ ps) (o ∷ start) [] n v = refl
with-one (p ∷ ps) (o ∷ start) (w ∷ now) n v = by (bytes_eq (name p) n) (with-one ps start now n v)
  where
    by : (b : Bool) → with_told (kept_of (reports_with ps start) now) (n, v) ≡ kept_of (reports_with ps start) (with_report ps now n v)
        → (if b then told (first_told (name p, o)) v ∷ kept_of (reports_with ps start) now else told (first_told (name p, o)) w ∷ with_told (kept_of (reports_with ps start) now) (n, v)) ≡ kept_of (reports_with (p ∷ ps) (o ∷ start)) (if b then v ∷ now else w ∷ with_report ps now n v)
    by true e = refl
    by false e = ap (λ (ks : List KeptReport). told (first_told (name p, o)) w ∷ ks) e

told-read : (start now : List Text) (r : Result (Text × Text) ViewError) → told_by (kept_by start now) r ≡ kept_by start (reported_by now r)
told-read start now (Ok (n, v)) = with-one reported_parameters start now n v
told-read start now (Err fault) = refl

pub told-frame : (start now : List Text) (f : FrameOf) → after_frame (kept_by start now) f ≡ kept_by start (after_reply now f)
told-frame start now f = by (f.kind == PARAMETER_STATUS)
  where
    by : (b : Bool) → (if b then told_by (kept_by start now) (status_of f.body) else kept_by start now) ≡ kept_by start (if b then reported_by now (status_of f.body) else now)
    by true = told-read start now (status_of f.body)
    by false = refl

pub told-frames : (start now : List Text) (fs : List FrameOf) → after_frames (kept_by start now) fs ≡ kept_by start (after_replies now fs)
told-frames start now [] = refl
told-frames start now (f ∷ fs) = ap (λ (ks : List KeptReport). after_frames ks fs) (told-frame start now f) ∙ told-frames start (after_reply now f) fs

-- ---- the welcome

start-reports : (ps : List Parameter) (vs ws : List Text) → length ws ≡ length vs → map start_report (kept_of (reports_with ps vs) ws) ≡ all_reports_from ps vs
start-reports [] vs ws e = refl
start-reports (p ∷ ps) [] ws e = refl
start-reports (p ∷ ps) (v ∷ vs) [] e = absurd (omega (arith, e))
start-reports (p ∷ ps) (v ∷ vs) (w ∷ ws) e = ap (λ (fs : List FrameOf). parameter_status (name p) v ∷ fs) (start-reports ps vs ws (omega (arith, e)))

pub welcome_is : WelcomesAreTheSessions
welcome_is s pid secret = ap (λ (fs : List FrameOf). fs ++ backend_key_data pid secret ∷ ready_for_query IDLE ∷ []) (start-reports reported_parameters s.reported s.reported refl)
