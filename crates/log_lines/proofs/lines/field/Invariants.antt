use Rattle.std.proofs.Common.{◌≡◌, length}
use Rattle.message_view.specs.Left.{fields_left}
use Rattle.log_lines.specs.Lines as spec
use Rattle.log_lines.proofs.lines.field.Given as goal

abbrev pub invariant-loop-other : goal.invariant-loop-other
invariant-loop-other l = spec.field l.code (fields_left l.fields) ≡ spec.field l.code (fields_left l.initial.fields)

abbrev pub decreases-loop-other : goal.decreases-loop-other
decreases-loop-other l = length (fields_left l.fields)
