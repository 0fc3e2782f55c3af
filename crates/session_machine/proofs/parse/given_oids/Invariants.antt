use Rattle.std.proofs.Common.{◌≡◌, ◌++◌}
use Rattle.message_view.specs.Left.{oids_left}
use Rattle.session_machine.proofs.parse.given_oids.Given as goal

abbrev pub invariant-loop-oid : goal.invariant-loop-oid
invariant-loop-oid l = l.list.items ++ oids_left l.oid-iterator ≡ oids_left l.fn.oids
