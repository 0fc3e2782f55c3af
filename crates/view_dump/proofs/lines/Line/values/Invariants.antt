use Rattle.std.proofs.Common.{length}
use Rattle.message_view.specs.Left.{values_left}
use Rattle.view_dump.proofs.lines.Line.values.Given as goal

abbrev pub invariant-loop-value : goal.invariant-loop-value
invariant-loop-value l = Unit {0}

abbrev pub decreases-loop-value : goal.decreases-loop-value
decreases-loop-value l = length (values_left l.value-iterator)
