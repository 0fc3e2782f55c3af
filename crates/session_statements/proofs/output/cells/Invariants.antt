use Rattle.std.proofs.Common.{◌≡◌, length, take}
use Rattle.message_view.specs.Parts.{row_of}
use Rattle.session_statements.proofs.output.cells.Given as goal

abbrev pub invariant-loop-value : goal.invariant-loop-value
invariant-loop-value l = record {
  values : row_of l.cells.items ≡ take l.value-index l.row;
  width : length l.cells.items ≡ l.value-index;
}
