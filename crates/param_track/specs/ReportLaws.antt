-- The laws of a link's reports. Each is the whole contract of a function of src/laws.rt.
use Rattle.std.specs.Prelude.{◌≡◌, List, [], ◌∷◌, ◌++◌, false, map}
use Rattle.std.specs.Bool.{Decides}
use Rattle.start_keys.specs.StartPairs.{Text}
use Rattle.param_track.specs.Reports.{Report, with_start, is_reported, AreAsAtStart}
use Rattle.param_track.specs.KeptReports.{KeptReport, Tells, has_name, with_first, with_told, is_at_start}

-- what is told of a name
abbrev pub report_of : KeptReport → Report
report_of k = (k.name, k.value)

-- What is kept of a start's reports, and of those since then, has its names and values in their order;
-- each call makes of it what is kept of these reports and the one that it is given; and of a report whose
-- name the start didn't report nothing is kept.
pub record ReportsAreTold : Type 0 where
  pub starts : (kept : List KeptReport) (start : List Report) (r : Report) → Tells kept start [] → Tells (with_first kept r) (with_start start r) []
  pub reports : (kept : List KeptReport) (start reports : List Report) (r : Report) → Tells kept start reports → Tells (with_told kept r) start (reports ++ r ∷ [])
  pub names : (kept : List KeptReport) (start reports : List Report) (name : Text) → Tells kept start reports → has_name kept name ≡ is_reported start name
  pub others : (kept : List KeptReport) (r : Report) → has_name kept r.0 ≡ false → with_told kept r ≡ kept
  pub order : (kept : List KeptReport) (start reports : List Report) → Tells kept start reports → map report_of kept ≡ start

-- All is found to be as at the start exactly where each value last told is the start's.
abbrev pub AtStartExactly : Type 0
AtStartExactly = (kept : List KeptReport) (start reports : List Report) → Tells kept start reports → Decides (is_at_start kept) (AreAsAtStart start reports)
