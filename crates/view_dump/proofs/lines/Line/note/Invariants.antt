use Rattle.std.proofs.Common.{length}
use Rattle.message_view.specs.Left.{fields_left}
use Rattle.view_dump.proofs.lines.Line.note.Given as goal

abbrev pub invariant-loop-code : goal.invariant-loop-code
invariant-loop-code l = Unit {0}

abbrev pub decreases-loop-code : goal.decreases-loop-code
decreases-loop-code l = length (fields_left l.code-iterator)
