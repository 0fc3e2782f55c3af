use Rattle.std.proofs.Common.{◌≤◌, length}
use Rattle.text_lines.specs.Lines.{lines}
use Rattle.text_lines.proofs.SoFar.{ReadUpTo}
use Rattle.ini_config.specs.Reading.{with_line, fault_of, empty_file}
use Rattle.ini_config.proofs.reading.read_settings.Given as goal

abbrev pub invariant-loop-line : goal.invariant-loop-line
invariant-loop-line l = record {
  read : ReadUpTo with_line fault_of empty_file (lines l.fn.text) l.number l.line-iterator l.reading;
  bounded : length (lines l.fn.text) ≤ length l.fn.text;
}
