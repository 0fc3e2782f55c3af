use Rattle.std.proofs.Common.{length}
use Rattle.message_view.specs.Left.{pairs_left}
use Rattle.view_dump.proofs.lines.Line.first.Given as goal

abbrev pub invariant-loop-name : goal.invariant-loop-name
invariant-loop-name l = Unit {0}

abbrev pub decreases-loop-name : goal.decreases-loop-name
decreases-loop-name l = length (pairs_left l.name-iterator)
