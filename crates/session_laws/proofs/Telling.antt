-- The reports of a session tell the values that changed.
use Rattle.std.proofs.Common.{◌≡◌, ℕ, ◌+◌, ◌<◌, ◌≤◌, List, [], ◌∷◌, ◌++◌, length, take, Result, refl, sym, ap, subst, ◌∙◌, append_assoc, length-append, Bool, true, false, not, ◌&&◌, arith}
use Rattle.std.specs.Prelude.{if◌then◌else◌, slice_index_or}
use Rattle.std.specs.List.{AllByRecursion, AllZip, Contains, list_all}
use Rattle.std.proofs.lemmas.Slice.Eq.{bytes_eq-Decides}
use Rattle.frame_view.specs.declared.frames.TheConstants.{MAX_FRAME}
use Rattle.frame_view.specs.Frames.{FrameOf, IsFrame}
use Rattle.frame_view.specs.declared.Side.TheVariants.{Server}
use Rattle.message_view.specs.declared.ViewError.{ViewError}
use Rattle.message_view.specs.Bodies.{HasNoZero, text, status_body}
use Rattle.message_view.specs.Messages.{parameter_status}
use Rattle.message_view.specs.Reading.{status_of}
use Rattle.mini_sql.specs.Words.{Text, same_text}
use Rattle.session_values.specs.declared.parameter.Parameter.{Parameter}
use Rattle.session_values.specs.declared.parameter.Parameter.TheVariants.{ApplicationName, ClientEncoding, DateStyle, IntegerDatetimes, IntervalStyle, ServerEncoding, ServerVersion, StandardConformingStrings, TimeZone, ExtraFloatDigits, SearchPath, StatementTimeout}
use Rattle.session_values.specs.Parameters.{name, reported_parameters, unreported_parameters}
use Rattle.session_values.specs.State.{report_of, reports_from, all_reports_from, reported_of}
use Rattle.session_laws.specs.Laws.{IsReport, with_report, reported_by, after_reply, after_replies}
use Rattle.session_values.proofs.Alls.{all-append, plain-text, and-first, and-second}
use Rattle.session_laws.proofs.Bodies.{read-status}
use Rattle.session_laws.proofs.GoodValues.{IsSetting, AreSettings, AreReported, longest}
use Rattle.session_laws.proofs.Handling.{name-short}

-- ---- reports are short, and of reported parameters

abbrev IsKnown : Parameter → Type 0
IsKnown p = Contains reported_parameters p × longest p ≡ 63

at : (k : ℕ) (p : Parameter) → k < 9 → slice_index_or reported_parameters k p ≡ p → longest p ≡ 63 → IsKnown p
at k p l e m = ((k, l, e), m)

all-known : AllByRecursion IsKnown reported_parameters
all-known = (at 0 ApplicationName (omega arith) refl refl, (at 1 ClientEncoding (omega arith) refl refl, (at 2 DateStyle (omega arith) refl refl, (at 3 IntegerDatetimes (omega arith) refl refl, (at 4 IntervalStyle (omega arith) refl refl, (at 5 ServerEncoding (omega arith) refl refl, (at 6 ServerVersion (omega arith) refl refl, (at 7 StandardConformingStrings (omega arith) refl refl, (at 8 TimeZone (omega arith) refl refl, tt)))))))))

report-is : (p : Parameter) (v : Text) → IsKnown p → IsSetting p v → IsReport (parameter_status (name p) v)
report-is p v k h = record { parameter = p; value = v; known = k.0; plain = h.0; short = subst (λ (n : ℕ). length v ≤ n) k.1 h.1; is = refl }

reports-known : (ps more : List Parameter) (vs rs : List Text) → AllByRecursion IsKnown ps → AllZip IsSetting (ps ++ more) vs → AllByRecursion IsReport (reports_from ps vs rs)
reports-known [] more vs rs k h = tt
reports-known (p ∷ ps) more [] rs k h = absurd h
reports-known (p ∷ ps) more (v ∷ vs) [] k h = tt
reports-known (p ∷ ps) more (v ∷ vs) (r ∷ rs) k h = all-append IsReport (report_of p v r) (reports_from ps vs rs) (by_test (same_text v r)) (reports-known ps more vs rs k.1 h.1)
  where
    by_test : (b : Bool) → AllByRecursion IsReport (if b then [] else (parameter_status (name p) v ∷ []))
    by_test true = tt
    by_test false = (report-is p v k.0 h.0, tt)

pub reports-are : (vs rs : List Text) → AreSettings vs → AllByRecursion IsReport (reports_from reported_parameters vs rs)
reports-are vs rs h = reports-known reported_parameters unreported_parameters vs rs all-known h

all_reports-known : (ps : List Parameter) (vs : List Text) → AllByRecursion IsKnown ps → AllZip IsSetting ps vs → AllByRecursion IsReport (all_reports_from ps vs)
all_reports-known [] vs k h = tt
all_reports-known (p ∷ ps) [] k h = absurd h
all_reports-known (p ∷ ps) (v ∷ vs) k h = (report-is p v k.0 h.0, all_reports-known ps vs k.1 h.1)

pub all_reports-are : (vs : List Text) → AreReported vs → AllByRecursion IsReport (all_reports_from reported_parameters vs)
all_reports-are vs h = all_reports-known reported_parameters vs all-known h

status-length : (n v : Text) → length (status_body n v) ≡ length n + length v + 2
status-length n v = omega (arith, length-append (text n) (text v), length-append n (0 ∷ []), length-append v (0 ∷ []))

status-frame : (p : Parameter) (v : Text) → length v ≤ 63 → IsFrame Server MAX_FRAME (parameter_status (name p) v)
status-frame p v h = record { of_type = refl; size = omega (arith, status-length (name p) v, name-short p) }

pub report-frame : (f : FrameOf) → IsReport f → IsFrame Server MAX_FRAME f
report-frame f h = let e = h.is in rw e (status-frame h.parameter h.value h.short)

-- ---- they tell what changed

name-plain : (p : Parameter) → HasNoZero (name p)
name-plain ApplicationName = plain-text (name ApplicationName) refl
name-plain ClientEncoding = plain-text (name ClientEncoding) refl
name-plain DateStyle = plain-text (name DateStyle) refl
name-plain IntegerDatetimes = plain-text (name IntegerDatetimes) refl
name-plain IntervalStyle = plain-text (name IntervalStyle) refl
name-plain ServerEncoding = plain-text (name ServerEncoding) refl
name-plain ServerVersion = plain-text (name ServerVersion) refl
name-plain StandardConformingStrings = plain-text (name StandardConformingStrings) refl
name-plain TimeZone = plain-text (name TimeZone) refl
name-plain ExtraFloatDigits = plain-text (name ExtraFloatDigits) refl
name-plain SearchPath = plain-text (name SearchPath) refl
name-plain StatementTimeout = plain-text (name StatementTimeout) refl

is_same : (t : Text) → same_text t t ≡ true
is_same t = (bytes_eq-Decides t t).1 refl

same-is : (a b : Text) → same_text a b ≡ true → a ≡ b
same-is a b h = (bytes_eq-Decides a b).0 h

-- none of these is called like p
abbrev others : Parameter → List Parameter → Bool
others p qs = list_all (λ q. not (same_text (name q) (name p))) qs

abbrev are_apart : List Parameter → List Parameter → Bool
are_apart qs [] = true
are_apart qs (p ∷ ps) = others p qs && are_apart (qs ++ p ∷ []) ps

not-true : (b : Bool) → not b ≡ true → b ≡ false
not-true true h = absurd cc
not-true false h = refl

-- the value at the place of a name
placed : (qs ps : List Parameter) (ds rs : List Text) (p : Parameter) (r v : Text) → length qs ≡ length ds → others p qs ≡ true → with_report (qs ++ p ∷ ps) (ds ++ r ∷ rs) (name p) v ≡ ds ++ v ∷ rs
placed [] ps [] rs p r v l a = let e = is_same (name p) in rw e refl
placed [] ps (d ∷ ds) rs p r v l a = absurd (omega arith)
placed (q ∷ qs) ps [] rs p r v l a = absurd (omega arith)
placed (q ∷ qs) ps (d ∷ ds) rs p r v l a =
    let e : same_text (name q) (name p) ≡ false = not-true (same_text (name q) (name p)) (and-first (not (same_text (name q) (name p))) (others p qs) a) in
    rw e (ap (λ (t : List Text). d ∷ t) (placed qs ps ds rs p r v (omega arith) (and-second (not (same_text (name q) (name p))) (others p qs) a)))

tell-one : (p : Parameter) (old new : List Text) (v r : Text) (rest : List FrameOf) → HasNoZero v → with_report reported_parameters old (name p) v ≡ new → (v ≡ r → old ≡ new)
    → after_replies old (report_of p v r ++ rest) ≡ after_replies new rest
tell-one p old new v r rest z e f = by_test (same_text v r) refl
  where
    read : reported_by old (status_of (status_body (name p) v)) ≡ new
    read = ap (λ (x : Result (Text × Text) ViewError). reported_by old x) (read-status (name p) v (name-plain p) z) ∙ e

    by_test : (b : Bool) → same_text v r ≡ b → after_replies old ((if b then [] else (parameter_status (name p) v ∷ [])) ++ rest) ≡ after_replies new rest
    by_test true h = ap (λ (t : List Text). after_replies t rest) (f (same-is v r h))
    by_test false h = ap (λ (t : List Text). after_replies t rest) read

tell-from : (ps qs more : List Parameter) (ds vs rs : List Text) → qs ++ ps ≡ reported_parameters → length qs ≡ length ds → are_apart qs ps ≡ true → AllZip IsSetting (ps ++ more) vs → AllZip IsSetting ps rs
    → after_replies (ds ++ rs) (reports_from ps vs rs) ≡ ds ++ take (length ps) vs
tell-from [] qs more ds vs [] e l a h k = refl
tell-from [] qs more ds vs (r ∷ rs) e l a h k = absurd k
tell-from (p ∷ ps) qs more ds [] rs e l a h k = absurd h
tell-from (p ∷ ps) qs more ds (v ∷ vs) [] e l a h k = absurd k
tell-from (p ∷ ps) qs more ds (v ∷ vs) (r ∷ rs) e l a h k =
    let here : with_report reported_parameters (ds ++ r ∷ rs) (name p) v ≡ ds ++ v ∷ rs = subst (λ (xs : List Parameter). with_report xs (ds ++ r ∷ rs) (name p) v ≡ ds ++ v ∷ rs) e (placed qs ps ds rs p r v l (and-first (others p qs) (are_apart (qs ++ p ∷ []) ps) a)) in
    let longer : length (qs ++ p ∷ []) ≡ length (ds ++ v ∷ []) = omega (arith, length-append qs (p ∷ []), length-append ds (v ∷ [])) in
    tell-one p (ds ++ r ∷ rs) (ds ++ v ∷ rs) v r (reports_from ps vs rs) h.0.0 here (λ (s : v ≡ r). ap (λ (t : Text). ds ++ t ∷ rs) (sym s))
    ∙ ap (λ (t : List Text). after_replies t (reports_from ps vs rs)) (sym (append_assoc ds (v ∷ []) rs))
    ∙ tell-from ps (qs ++ p ∷ []) more (ds ++ v ∷ []) vs rs (append_assoc qs (p ∷ []) ps ∙ e) longer (and-second (others p qs) (are_apart (qs ++ p ∷ []) ps) a) h.1 k.1
    ∙ append_assoc ds (v ∷ []) (take (length ps) vs)

pub reports-tell : (vs rs : List Text) → AreSettings vs → AreReported rs → after_replies rs (reports_from reported_parameters vs rs) ≡ reported_of vs
reports-tell vs rs h k = tell-from reported_parameters [] unreported_parameters [] vs rs refl refl refl h k

pub after-append : (vs : List Text) (fs gs : List FrameOf) → after_replies vs (fs ++ gs) ≡ after_replies (after_replies vs fs) gs
after-append vs [] gs = refl
after-append vs (f ∷ fs) gs = after-append (after_reply vs f) fs gs
