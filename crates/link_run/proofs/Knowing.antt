-- The reports of a reset are of names that the link keeps, and the start's values are as at the start.
use Rattle.std.proofs.Common.{◌≡◌, ℕ, zero, suc, ◌<◌, Bool, true, false, not, List, [], ◌∷◌, length, refl, ap, ap₂, ◌∙◌, arith, Result, Ok, Err}
use Rattle.std.specs.Prelude.{◌||◌, ◌&&◌, ◌==◌, if◌then◌else◌, bytes_eq, slice_index_or}
use Rattle.std.specs.List.{AllByRecursion}
use Rattle.std.proofs.lemmas.Bool.{eqb-true}
use Rattle.std.proofs.lemmas.Slice.Eq.{bytes_eq-Decides}
use Rattle.frame_view.specs.declared.server.TheConstants.{PARAMETER_STATUS}
use Rattle.frame_view.specs.Frames.{FrameOf}
use Rattle.message_view.specs.declared.ViewError.{ViewError}
use Rattle.message_view.specs.Reading.{status_of}
use Rattle.start_keys.specs.StartPairs.{Text}
use Rattle.session_values.specs.declared.parameter.Parameter.{Parameter}
use Rattle.session_values.specs.Parameters.{reported_parameters, name}
use Rattle.session_run_laws.specs.Laws.{IsReport, IsReportIf, with_report, reported_by, after_reply}
use Rattle.session_run_laws.proofs.SessionsByName.{reports_are_read}
use Rattle.param_track.specs.KeptReports.{KeptReport, has_name, is_at_start, is_one_other, kept_of}
use Rattle.link_run.specs.Links.{reports_with, kept_by}
use Rattle.link_run.specs.Dialogues.{names_kept, is_known, are_known}
use Rattle.link_run.proofs.Reporting.{told-frame}

same_values : (v : Text) → bytes_eq v v ≡ true
same_values v = (bytes_eq-Decides v v).1 refl

pub at_start_again : (ps : List Parameter) (vs : List Text) → is_at_start (kept_of (reports_with ps vs) vs) ≡ true
at_start_again [] vs = refl
at_start_again (p ∷ ps) [] = refl
at_start_again (p ∷ ps) (v ∷ vs) = ap (λ (b : Bool). not (not b || is_one_other (kept_of (reports_with ps vs) vs))) (same_values v) ∙ at_start_again ps vs

reported_length : (ps : List Parameter) (vs : List Text) (n t : Text) → length (with_report ps vs n t) ≡ length vs
reported_length [] vs n t = refl
reported_length (p ∷ ps) [] n t = refl
reported_length (p ∷ ps) (v ∷ vs) n t = by (bytes_eq (name p) n) (reported_length ps vs n t)
  where
    by : (b : Bool) → length (with_report ps vs n t) ≡ length vs → length (if b then t ∷ vs else v ∷ with_report ps vs n t) ≡ length (v ∷ vs)
    by true e = refl
    by false e = ap suc e

or_true : (b : Bool) → (b || true) ≡ true
or_true true = refl
or_true false = refl

has_parameter : (ps : List Parameter) (start now : List Text) (k : ℕ) (p : Parameter) → length start ≡ length ps → length now ≡ length ps → k < length ps → slice_index_or ps k p ≡ p
    → has_name (kept_of (reports_with ps start) now) (name p) ≡ true
has_parameter [] start now k p e d h i = absurd (omega (arith, h))
has_parameter (q ∷ ps) [] now k p e d h i = absurd (omega (arith, e))
has_parameter (q ∷ ps) (s ∷ start) [] k p e d h i = absurd (omega (arith, d))
has_parameter (q ∷ ps) (s ∷ start) (n ∷ now) zero p e d h i = ap (λ (r : Parameter). bytes_eq (name r) (name p) || has_name (kept_of (reports_with ps start) now) (name p)) i ∙ ap (λ (b : Bool). b || has_name (kept_of (reports_with ps start) now) (name p)) (same_values (name p))
has_parameter (q ∷ ps) (s ∷ start) (n ∷ now) (suc k) p e d h i =
    ap (λ (b : Bool). bytes_eq (name q) (name p) || b) (has_parameter ps start now k p (omega (arith, e)) (omega (arith, d)) (omega (arith, h)) i) ∙ or_true (bytes_eq (name q) (name p))

known_report : (start now : List Text) (f : FrameOf) → length start ≡ 9 → length now ≡ 9 → IsReport f → names_kept (kept_by start now) (status_of f.body) ≡ true
known_report start now f e d r =
    ap (names_kept (kept_by start now)) (reports_are_read f r).0 ∙ has_parameter reported_parameters start now r.known.0 r.parameter e d r.known.1 r.known.2

known_frame : (start now : List Text) (f : FrameOf) → length start ≡ 9 → length now ≡ 9 → IsReportIf f → is_known (kept_by start now) f ≡ true
known_frame start now f e d r = by (f.kind == PARAMETER_STATUS) refl
  where
    by : (b : Bool) → (f.kind == PARAMETER_STATUS) ≡ b → (if b then names_kept (kept_by start now) (status_of f.body) else true) ≡ true
    by true k = known_report start now f e d (r (eqb-true f.kind PARAMETER_STATUS k))
    by false k = refl

kept_length : (now : List Text) (f : FrameOf) → length (after_reply now f) ≡ length now
kept_length now f = by (f.kind == PARAMETER_STATUS) (status_of f.body)
  where
    by : (b : Bool) (r : Result (Text × Text) ViewError) → length (if b then reported_by now r else now) ≡ length now
    by true (Ok (n, t)) = reported_length reported_parameters now n t
    by true (Err fault) = refl
    by false r = refl

pub known_frames : (start now : List Text) (fs : List FrameOf) → length start ≡ 9 → length now ≡ 9 → AllByRecursion IsReportIf fs → are_known (kept_by start now) fs ≡ true
known_frames start now [] e d h = refl
known_frames start now (f ∷ fs) e d h =
    ap₂ (λ (b : Bool) (ks : List KeptReport). b && are_known ks fs) (known_frame start now f e d h.0) (told-frame start now f)
    ∙ known_frames start (after_reply now f) fs e (kept_length now f ∙ d) h.1
