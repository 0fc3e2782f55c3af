use Rattle.std.proofs.Common.{◌≡◌, length}
use Rattle.std.specs.Prelude.{nat_le}
use Rattle.mini_sql.specs.Meanings.{operands_left}
use Rattle.session_statements.proofs.lookup.are_at_most.Given as goal

abbrev pub invariant-loop-operand : goal.invariant-loop-operand
invariant-loop-operand l = nat_le (length (operands_left l._operand-iterator)) l.left ≡ nat_le (length (operands_left l.fn.operands)) l.limit
