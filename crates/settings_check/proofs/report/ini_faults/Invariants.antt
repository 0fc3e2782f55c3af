use Rattle.std.proofs.Common.{◌≡◌, ◌++◌, drop}
use Rattle.std.specs.Prelude.{map}
use Rattle.settings_check.specs.Faults.{found}
use Rattle.settings_check.specs.Report as spec
use Rattle.settings_check.proofs.report.ini_faults.Given as goal

abbrev pub invariant-loop-faulty : goal.invariant-loop-faulty
invariant-loop-faulty l =
    l.lines.items ++ map (spec.ini_line l.file) (map found (drop l.faulty-index l.faulty-items)) ≡ spec.ini_faults l.file l.text
