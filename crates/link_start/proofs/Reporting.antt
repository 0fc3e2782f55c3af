-- What the welcome of a session reports is kept by name, in its order.
use Rattle.std.proofs.Common.{◌≡◌, ℕ, ◌+◌, ◌≤◌, ◌<◌, Bool, true, false, List, [], ◌∷◌, ◌++◌, length, map, refl, sym, ap, ap₂, ◌∙◌, append_assoc, append-nil, arith, length-append, Result, Ok, Err, Option, Some, None}
use Rattle.std.specs.Prelude.{◌&&◌, ◌||◌, not, if◌then◌else◌, bytes_eq}
use Rattle.std.specs.List.{AllByRecursion, list_any}
use Rattle.std.proofs.lemmas.Bool.{true≢false, ltb-false, lt-ltb}
use Rattle.std.proofs.lemmas.Slice.Eq.{bytes_eq-Decides}
use Rattle.std.proofs.lemmas.List.{append_cancel_right}
use Rattle.frame_view.specs.Frames.{FrameOf}
use Rattle.message_view.specs.declared.ViewError.{ViewError}
use Rattle.message_view.specs.Bodies.{Text, text, status_body}
use Rattle.message_view.specs.Messages.{parameter_status, backend_key_data, ready_for_query}
use Rattle.message_view.specs.declared.kinds.TheConstants.{IDLE}
use Rattle.message_view.specs.Reading.{text_at, status_of}
use Rattle.session_values.specs.declared.parameter.Parameter.{Parameter}
use Rattle.session_values.specs.declared.parameter.Parameter.TheVariants.{ApplicationName, ClientEncoding, DateStyle, IntegerDatetimes, IntervalStyle, ServerEncoding, ServerVersion, StandardConformingStrings, TimeZone, ExtraFloatDigits, SearchPath, StatementTimeout}
use Rattle.session_values.specs.Parameters.{reported_parameters, name}
use Rattle.session_values.specs.State.{State, all_reports_from}
use Rattle.session_values.specs.Service.{welcome}
use Rattle.session_laws.specs.Laws.{IsReport}
use Rattle.session_laws.specs.Starts.{Welcomes}
use Rattle.session_laws.proofs.ByName.{reports_are_read}
use Rattle.param_track.specs.KeptReports.{KeptReport, first_told, has_name, kept_of, place_of, with_first}
use Rattle.param_track.specs.Reports.{Report}
use Rattle.param_track.proofs.Reporting.{first_new, has_at}
use Rattle.link_run.specs.Links.{reports_with, kept_by}
use Rattle.link_run.specs.Dialogues.{added, reported_by, reported_next, reported_all}

-- ---- a report is read as what it says

name_first : (p : Parameter) (v : Text) → text_at (status_body (name p) v) ≡ Ok (name p, text v)
unfolding text_at
name_first ApplicationName v = refl
name_first ClientEncoding v = refl
name_first DateStyle v = refl
name_first IntegerDatetimes v = refl
name_first IntervalStyle v = refl
name_first ServerEncoding v = refl
name_first ServerVersion v = refl
name_first StandardConformingStrings v = refl
name_first TimeZone v = refl
name_first ExtraFloatDigits v = refl
name_first SearchPath v = refl
name_first StatementTimeout v = refl

text_in : Result (Text × List ℕ) ViewError → Text
text_in (Ok x) = x.0
text_in (Err fault) = []

rest_in : Result (Text × List ℕ) ViewError → List ℕ
rest_in (Ok x) = x.1
rest_in (Err fault) = []

same_report : (p q : Parameter) (v w : Text) → parameter_status (name p) v ≡ parameter_status (name q) w → (name p ≡ name q) × (v ≡ w)
unfolding text_in rest_in
same_report p q v w e =
    let t : Ok (name p, text v) ≡ Ok (name q, text w) = sym (name_first p v) ∙ ap (λ (f : FrameOf). text_at f.body) e ∙ name_first q w in
    (ap text_in t, append_cancel_right v w (0 ∷ []) (ap rest_in t))

read_as : (p : Parameter) (v : Text) → IsReport (parameter_status (name p) v) → status_of (parameter_status (name p) v).body ≡ Ok (name p, v)
read_as p v r =
    let s = same_report p r.parameter v r.value r.is in
    (reports_are_read (parameter_status (name p) v) r).0 ∙ ap₂ (λ (n t : Text). Ok (n, t)) (sym s.0) (sym s.1)

-- ---- a new name comes last

abbrev names : List KeptReport → List Text
names kept = map (λ k. k.name) kept

abbrev among : Text → List Text → Bool
among n ns = list_any (λ m. bytes_eq m n) ns

-- each name is new to those before it
abbrev are_apart : List Text → List Parameter → Bool
are_apart ns [] = true
are_apart ns (p ∷ ps) = not (among (name p) ns) && are_apart (ns ++ name p ∷ []) ps

nine_are_apart : are_apart [] reported_parameters ≡ true
nine_are_apart = refl

names_told : (kept : List KeptReport) (n : Text) → has_name kept n ≡ among n (names kept)
names_told [] n = refl
names_told (k ∷ kept) n = ap (λ (b : Bool). bytes_eq k.name n || b) (names_told kept n)

not_true : (b : Bool) → not b ≡ true → b ≡ false
not_true true e = sym e
not_true false e = refl

both : (a b : Bool) → (a && b) ≡ true → (a ≡ true) × (b ≡ true)
both true b e = (refl, e)
both false b e = absurd (true≢false (sym e))

names_with : (kept : List KeptReport) (r : Report) → names (kept ++ first_told r ∷ []) ≡ names kept ++ r.0 ∷ []
names_with [] r = refl
names_with (k ∷ kept) r = ap (λ (ns : List Text). k.name ∷ ns) (names_with kept r)

comes_last : (kept : List KeptReport) (r : Report) → has_name kept r.0 ≡ false → with_first kept r ≡ kept ++ first_told r ∷ []
comes_last kept r e = first_new kept r (ltb-false (place_of r.0 kept) (length kept) (sym (has_at r.0 kept) ∙ e))

one_more : (kept : List KeptReport) (p : Parameter) (v : Text) → length kept < 64 → has_name kept (name p) ≡ false → IsReport (parameter_status (name p) v)
    → reported_by kept (parameter_status (name p) v) ≡ Some (kept ++ first_told (name p, v) ∷ [])
one_more kept p v room new r =
    ap (added kept) (read_as p v r)
    ∙ ap₂ (λ (a b : Bool). if a || b then Some (with_first kept (name p, v)) else None) new (lt-ltb (length kept) 64 room)
    ∙ ap (λ (ks : List KeptReport). Some ks) (comes_last kept (name p, v) new)

-- ---- all of them

same_bytes : (t : Text) → bytes_eq t t ≡ true
same_bytes t = (bytes_eq-Decides t t).1 refl

kept_first : (p : Parameter) (v : Text) (ps : List Parameter) (vs : List Text) → kept_of (reports_with (p ∷ ps) (v ∷ vs)) (v ∷ vs) ≡ first_told (name p, v) ∷ kept_of (reports_with ps vs) vs
kept_first p v ps vs = ap (λ (b : Bool). record { name = name p; value = v; differs = not b } ∷ kept_of (reports_with ps vs) vs) (same_bytes v)

all_more : (kept : List KeptReport) (ps : List Parameter) (vs : List Text) (more : List FrameOf) → length kept + length ps ≤ 64 → are_apart (names kept) ps ≡ true → AllByRecursion IsReport (all_reports_from ps vs)
    → reported_all kept (all_reports_from ps vs ++ more) ≡ reported_all (kept ++ kept_of (reports_with ps vs) vs) more
all_more kept [] vs more room apart each = ap (λ (ks : List KeptReport). reported_all ks more) (sym (append-nil kept))
all_more kept (p ∷ ps) [] more room apart each = ap (λ (ks : List KeptReport). reported_all ks more) (sym (append-nil kept))
all_more kept (p ∷ ps) (v ∷ vs) more room apart each =
    let a = both (not (among (name p) (names kept))) (are_apart (names kept ++ name p ∷ []) ps) apart in
    let new : has_name kept (name p) ≡ false = names_told kept (name p) ∙ not_true (among (name p) (names kept)) a.0 in
    let next : List KeptReport = kept ++ first_told (name p, v) ∷ [] in
    let rest : are_apart (names next) ps ≡ true = ap (λ (ns : List Text). are_apart ns ps) (names_with kept (name p, v)) ∙ a.1 in
    ap (λ (o : Option (List KeptReport)). reported_next o (λ ks. reported_all ks (all_reports_from ps vs ++ more))) (one_more kept p v (omega (arith, room)) new each.0)
    ∙ all_more next ps vs more (omega (arith, room, length-append kept (first_told (name p, v) ∷ []))) rest each.1
    ∙ ap (λ (ks : List KeptReport). reported_all ks more) (append_assoc kept (first_told (name p, v) ∷ []) (kept_of (reports_with ps vs) vs) ∙ ap (λ (ks : List KeptReport). kept ++ ks) (sym (kept_first p v ps vs)))

-- the welcome reports the session's values
pub welcome_reports : (s : State) (pid secret : ℕ) → Welcomes s pid secret → reported_all [] (welcome s pid secret) ≡ Some (kept_by s.reported s.reported)
welcome_reports s pid secret w = all_more [] reported_parameters s.reported (backend_key_data pid secret ∷ ready_for_query IDLE ∷ []) (omega arith) nine_are_apart w.are_reports
