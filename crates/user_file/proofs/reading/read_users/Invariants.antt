use Rattle.std.proofs.Common.{◌≤◌, length, []}
use Rattle.text_lines.specs.Lines.{lines}
use Rattle.text_lines.proofs.SoFar.{ReadUpTo}
use Rattle.user_file.specs.Users.{with_line, fault_of}
use Rattle.user_file.proofs.reading.read_users.Given as goal

abbrev pub invariant-loop-line : goal.invariant-loop-line
invariant-loop-line l = record {
  read : ReadUpTo with_line fault_of [] (lines l.fn.text) l.number l.line-iterator l.users;
  bounded : length (lines l.fn.text) ≤ length l.fn.text;
}
