use Rattle.std.proofs.Common.{◌≡◌, ◌+◌, ◌++◌, ◌≤◌, length}
use Rattle.std.specs.Prelude.{map}
use Rattle.text_lines.specs.Lines.{raw_lines}
use Rattle.settings_check.specs.Users.{faults, faults_from, found}
use Rattle.settings_check.proofs.users.faulty_users.Given as goal

abbrev pub invariant-loop-line : goal.invariant-loop-line
invariant-loop-line l = record {
  counted : l.number + length l.line-iterator ≡ length (raw_lines l.fn.text);
  bounded : length (raw_lines l.fn.text) ≤ length l.fn.text;
  rest : map found l.faulty.items ++ faults_from l.seen (l.number + 1) l.line-iterator ≡ faults (raw_lines l.fn.text);
}
