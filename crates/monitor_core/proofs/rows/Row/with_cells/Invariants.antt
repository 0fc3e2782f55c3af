use Rattle.std.proofs.Common.{◌≡◌, ◌+◌, ◌++◌, ◌≤◌, drop, length}
use Rattle.monitor_core.specs.declared.rows.TheConstants.{WIDEST}
use Rattle.monitor_core.proofs.rows.Row.with_cells.Given as goal

abbrev pub invariant-loop-cell : goal.invariant-loop-cell
invariant-loop-cell l = record {
  texts : l.row ++ drop l.cell-index l.cells ≡ l.fn.self ++ l.cells;
  room : length l.row + length (drop l.cell-index l.cells) ≤ WIDEST;
}
