-- What is kept tells of the reports.
use Rattle.std.proofs.Common.{◌≡◌, suc, Bool, true, false, List, [], ◌∷◌, ◌++◌, length, refl, ap, ap₂, sym, subst, ◌∙◌, arith}
use Rattle.std.specs.Prelude.{not, ◌||◌, map, fold, bytes_eq, if◌then◌else◌}
use Rattle.std.specs.List.{list_any}
use Rattle.std.specs.Cmp.Lexicographic.{nat_list_eq_equiv}
use Rattle.std.proofs.lemmas.Bool.{false≢true}
use Rattle.std.proofs.lemmas.List.Sums.{fold_push}
use Rattle.std.proofs.lemmas.Slice.Eq.{bytes_eq-Decides}
use Rattle.start_keys.specs.StartPairs.{Text}
use Rattle.param_track.specs.Reports.{Report, with_start, is_reported, values_of, with_report, last_told}
use Rattle.param_track.specs.KeptReports.{KeptReport, kept_of, has_name, first_told, with_first, told, with_told, is_at_start}
use Rattle.param_track.specs.ReportLaws.{report_of, ReportsAreTold, AtStartExactly}
use Rattle.param_track.proofs.Reporting.{told_none}

abbrev kept_one : Report → Text → KeptReport
kept_one p value = record { name = p.0; value = p.1; differs = not (bytes_eq p.1 value) }

-- ---- one more report

same_value : (p : Report) → bytes_eq p.1 p.1 ≡ true
same_value p = nat_list_eq_equiv.refl p.1

first_is : (p : Report) → first_told p ≡ kept_one p p.1
first_is p = ap (λ (b : Bool). record { name = p.0; value = p.1; differs = not b }) (sym (same_value p))

first_kept : (start : List Report) (r : Report) → with_first (kept_of start (values_of start)) r ≡ kept_of (with_start start r) (values_of (with_start start r))
first_kept [] r = ap (λ (k : KeptReport). k ∷ []) (first_is r)
first_kept (p ∷ start) r = go (bytes_eq p.0 r.0) (first_kept start r)
  where
    go : (b : Bool) → with_first (kept_of start (values_of start)) r ≡ kept_of (with_start start r) (values_of (with_start start r)) →
        (if b then first_told r ∷ kept_of start (values_of start) else kept_one p p.1 ∷ with_first (kept_of start (values_of start)) r)
        ≡ kept_of (if b then r ∷ start else p ∷ with_start start r) (values_of (if b then r ∷ start else p ∷ with_start start r))
    go true ih = ap (λ (k : KeptReport). k ∷ kept_of start (values_of start)) (first_is r)
    go false ih = ap (λ (ks : List KeptReport). kept_one p p.1 ∷ ks) ih

told_kept : (start : List Report) (values : List Text) (r : Report) → with_told (kept_of start values) r ≡ kept_of start (with_report start values r)
told_kept [] values r = refl
told_kept (p ∷ start) [] r = refl
told_kept (p ∷ start) (value ∷ values) r = go (bytes_eq p.0 r.0) (told_kept start values r)
  where
    go : (b : Bool) → with_told (kept_of start values) r ≡ kept_of start (with_report start values r) →
        (if b then told (kept_one p value) r.1 ∷ kept_of start values else kept_one p value ∷ with_told (kept_of start values) r)
        ≡ kept_of (p ∷ start) (if b then r.1 ∷ values else value ∷ with_report start values r)
    go true ih = refl
    go false ih = ap (λ (ks : List KeptReport). kept_one p value ∷ ks) ih

told_pushed : (start reports : List Report) (r : Report) → with_told (kept_of start (last_told start reports)) r ≡ kept_of start (last_told start (reports ++ r ∷ []))
told_pushed start reports r = told_kept start (last_told start reports) r ∙ ap (kept_of start) (sym (fold_push (with_report start) (values_of start) reports r))

-- ---- as many values as names

report_length : (start : List Report) (values : List Text) (r : Report) → length (with_report start values r) ≡ length values
report_length [] values r = refl
report_length (p ∷ start) [] r = refl
report_length (p ∷ start) (value ∷ values) r = go (bytes_eq p.0 r.0) (report_length start values r)
  where
    go : (b : Bool) → length (with_report start values r) ≡ length values → length (if b then r.1 ∷ values else value ∷ with_report start values r) ≡ suc (length values)
    go true ih = refl
    go false ih = ap suc ih

reports_length : (start : List Report) (values : List Text) (reports : List Report) → length (fold (with_report start) values reports) ≡ length values
reports_length start values [] = refl
reports_length start values (r ∷ reports) = reports_length start (with_report start values r) reports ∙ report_length start values r

values_length : (start : List Report) → length (values_of start) ≡ length start
values_length [] = refl
values_length (p ∷ start) = ap suc (values_length start)

told_length : (start reports : List Report) → length (last_told start reports) ≡ length start
told_length start reports = reports_length start (values_of start) reports ∙ values_length start

has_kept : (start : List Report) (values : List Text) (name : Text) → length values ≡ length start → has_name (kept_of start values) name ≡ is_reported start name
has_kept [] values name e = refl
has_kept (p ∷ start) [] name e = absurd (omega (arith, e))
has_kept (p ∷ start) (value ∷ values) name e = ap (λ (b : Bool). bytes_eq p.0 name || b) (has_kept start values name (omega (arith, e)))

kept_reports : (start : List Report) (values : List Text) → length values ≡ length start → map report_of (kept_of start values) ≡ start
kept_reports [] values e = refl
kept_reports (p ∷ start) [] e = absurd (omega (arith, e))
kept_reports (p ∷ start) (value ∷ values) e = ap (λ (ps : List Report). p ∷ ps) (kept_reports start values (omega (arith, e)))

pub reports-are_told : ReportsAreTold
reports-are_told = record {
  starts = λ kept start r e. ap (λ (ks : List KeptReport). with_first ks r) e ∙ first_kept start r;
  reports = λ kept start reports r e. ap (λ (ks : List KeptReport). with_told ks r) e ∙ told_pushed start reports r;
  names = λ kept start reports name e. ap (λ (ks : List KeptReport). has_name ks name) e ∙ has_kept start (last_told start reports) name (told_length start reports);
  others = λ kept r e. told_none kept r e;
  order = λ kept start reports e. ap (map report_of) e ∙ kept_reports start (last_told start reports) (told_length start reports);
}

-- ---- as at the start

no_other : (b c : Bool) → not (not b || c) ≡ true → (b ≡ true) × (not c ≡ true)
no_other true c e = (refl, e)
no_other false c e = absurd (false≢true e)

start_sound : (start : List Report) (values : List Text) → length values ≡ length start → is_at_start (kept_of start values) ≡ true → values ≡ values_of start
start_sound [] [] e at = refl
start_sound [] (value ∷ values) e at = absurd (omega (arith, e))
start_sound (p ∷ start) [] e at = absurd (omega (arith, e))
start_sound (p ∷ start) (value ∷ values) e at =
    let parts = no_other (bytes_eq p.1 value) (list_any (λ k. k.differs) (kept_of start values)) at in
    ap₂ (λ (v : Text) (vs : List Text). v ∷ vs) (sym ((bytes_eq-Decides p.1 value).0 parts.0)) (start_sound start values (omega (arith, e)) parts.1)

start_complete : (start : List Report) → is_at_start (kept_of start (values_of start)) ≡ true
start_complete [] = refl
start_complete (p ∷ start) = ap (λ (b : Bool). not (not b || list_any (λ k. k.differs) (kept_of start (values_of start)))) (same_value p) ∙ start_complete start

pub at_start-exactly : AtStartExactly
at_start-exactly kept start reports e = (
  λ at. start_sound start (last_told start reports) (told_length start reports) (subst (λ (ks : List KeptReport). is_at_start ks ≡ true) e at),
  λ same. ap is_at_start (e ∙ ap (kept_of start) same) ∙ start_complete start,
)
