use Rattle.std.proofs.Common.{◌≡◌}
use Rattle.std.specs.Prelude.{max}
use Rattle.mini_sql.specs.Statements.{greatest}
use Rattle.mini_sql.specs.Meanings.{operands_left}
use Rattle.mini_sql.proofs.stmt.greatest_parameter.Given as goal

abbrev pub invariant-loop-operand : goal.invariant-loop-operand
invariant-loop-operand l = max l.most (greatest (operands_left l.operand-iterator)) ≡ greatest (operands_left l.operands)
