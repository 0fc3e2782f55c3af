use Rattle.std.proofs.Common.{◌≤◌, length}
use Rattle.text_lines.specs.Lines.{raw_lines}
use Rattle.session_catalogue.proofs.Catalogued.{ReadUpTo}
use Rattle.session_catalogue.proofs.catalogue.read_whole.Given as goal

abbrev pub invariant-loop-line : goal.invariant-loop-line
invariant-loop-line l = record {
  read : ReadUpTo (raw_lines l.fn.text) l.number l.line-iterator l.draft;
  bounded : length (raw_lines l.fn.text) ≤ length l.fn.text;
}
