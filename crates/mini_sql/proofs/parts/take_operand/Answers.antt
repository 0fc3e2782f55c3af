use Rattle.std.proofs.Common.{sym}
use Rattle.mini_sql.specs.Meanings.{operand_value}
use Rattle.mini_sql.specs.Statements.{items, operand_of}
use Rattle.mini_sql.proofs.Reading.{takes-err, item-err, taken-none, taken-token, taken-other, items-value, items-none}
use Rattle.mini_sql.proofs.parts.take_operand.Goals as goal

pub returns-in_err-token-clause-read : goal.returns-in_err-token-clause-read
returns-in_err-token-clause-read c = takes-err _ _ _ c.from_residual.ensures.0 (taken-none _ _ c.in_err-token.ensures.read)

pub returns-in_err-token-clause-item : goal.returns-in_err-token-clause-item
returns-in_err-token-clause-item c = item-err operand_value (items operand_of) _ _ c.from_residual.ensures.0 (items-none _ _ (taken-none _ _ c.in_err-token.ensures.read))

pub returns-in-Some-clause-read : goal.returns-in-Some-clause-read
returns-in-Some-clause-read c = taken-token _ _ _ _ _ c.in_ok-token.ensures.read (sym c.in-Some.ensures)

pub returns-in-Some-clause-item : goal.returns-in-Some-clause-item
returns-in-Some-clause-item c = items-value _ _ _ _ (taken-token _ _ _ _ _ c.in_ok-token.ensures.read (sym c.in-Some.ensures))

pub returns-in-None-clause-read : goal.returns-in-None-clause-read
returns-in-None-clause-read c = taken-other _ _ _ _ c.in_ok-token.ensures.read (sym c.in-None.ensures)

pub returns-in-None-clause-item : goal.returns-in-None-clause-item
returns-in-None-clause-item c = items-none _ _ (taken-other _ _ _ _ c.in_ok-token.ensures.read (sym c.in-None.ensures))
