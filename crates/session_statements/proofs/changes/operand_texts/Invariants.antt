use Rattle.std.proofs.Common.{◌≡◌, ◌++◌, map}
use Rattle.mini_sql.specs.Meanings.{operands_left}
use Rattle.session_values.specs.Runs.{operand_value}
use Rattle.session_statements.proofs.changes.operand_texts.Given as goal

abbrev pub invariant-loop-operand : goal.invariant-loop-operand
invariant-loop-operand l = l.values.items ++ map (operand_value l.given) (operands_left l.operand-iterator) ≡ map (operand_value l.given) (operands_left l.fn.operands)
