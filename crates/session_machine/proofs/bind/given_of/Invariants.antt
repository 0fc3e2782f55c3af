use Rattle.std.proofs.Common.{◌≡◌, ◌++◌, length}
use Rattle.message_view.specs.Left.{values_left}
use Rattle.session_machine.proofs.bind.given_of.Given as goal

abbrev pub invariant-loop-value : goal.invariant-loop-value
invariant-loop-value l = l.list.items ++ values_left l.rest ≡ values_left l.fn.values

abbrev pub decreases-loop-value : goal.decreases-loop-value
decreases-loop-value l = length (values_left l.rest)
