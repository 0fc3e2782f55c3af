use Rattle.std.proofs.Common.{◌≡◌, ◌++◌}
use Rattle.message_view.specs.Left.{codes_left}
use Rattle.session_machine.proofs.bind.codes_of.Given as goal

abbrev pub invariant-loop-code : goal.invariant-loop-code
invariant-loop-code l = l.list.items ++ codes_left l.code-iterator ≡ codes_left l.fn.codes
