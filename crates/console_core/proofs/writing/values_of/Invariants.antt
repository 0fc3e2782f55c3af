use Rattle.std.proofs.Common.{◌≡◌, ◌++◌, Some, drop, length, map}
use Rattle.message_view.specs.Parts.{row_of}
use Rattle.console_core.proofs.writing.values_of.Given as goal

abbrev pub invariant-loop-cell : goal.invariant-loop-cell
invariant-loop-cell l = record {
  values : row_of l.values.items ++ map Some (drop l.cell-index l.cells) ≡ map Some l.cells;
  width : length l.values.items ≡ l.cell-index;
}
