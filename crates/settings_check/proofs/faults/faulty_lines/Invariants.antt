use Rattle.std.proofs.Common.{◌≡◌, ◌+◌, ◌++◌, ◌≤◌, length}
use Rattle.std.specs.Prelude.{map}
use Rattle.text_lines.specs.Lines.{lines, trimmed}
use Rattle.settings_check.specs.Faults.{faults, faults_from, found}
use Rattle.settings_check.proofs.faults.faulty_lines.Given as goal

abbrev pub invariant-loop-raw : goal.invariant-loop-raw
invariant-loop-raw l = record {
  counted : l.number + length l.raw-iterator ≡ length (lines l.fn.text);
  bounded : length (lines l.fn.text) ≤ length l.fn.text;
  rest : map found l.faulty.items ++ faults_from l.reading (l.number + 1) (map trimmed l.raw-iterator) ≡ faults (lines l.fn.text);
}
