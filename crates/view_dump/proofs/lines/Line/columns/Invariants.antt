use Rattle.std.proofs.Common.{length}
use Rattle.message_view.specs.Left.{columns_left}
use Rattle.view_dump.proofs.lines.Line.columns.Given as goal

abbrev pub invariant-loop-number : goal.invariant-loop-number
invariant-loop-number l = Unit {0}

abbrev pub invariant-loop-column : goal.invariant-loop-column
invariant-loop-column l = Unit {0}

abbrev pub decreases-loop-column : goal.decreases-loop-column
decreases-loop-column l = length (columns_left l.column-iterator)
