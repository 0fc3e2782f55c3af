use Rattle.std.proofs.Common.{◌∙◌, ap}
use Rattle.mini_sql.specs.Statements.{items, operand_of}
use Rattle.mini_sql.specs.Lists.{rest_of}
use Rattle.mini_sql.proofs.Skipping.{rest-goes_on, rest-stops}
use Rattle.mini_sql.proofs.Reading.{follows-err}
use Rattle.mini_sql.proofs.lists.after_operands.Goals as goal

pub returns-in_err-after : goal.returns-in_err-after
returns-in_err-after c = follows-err _ _ c.from_residual.ensures.0 (c.loop-after.invariant ∙ ap rest_of c.in_err-after.ensures.item)

pub returns-in-None : goal.returns-in-None
returns-in-None c = rest-stops (items operand_of) _ _ _ _ c.loop-after.invariant c.in_ok-after.ensures.item c.in-None.ensures.read

pub loop-after-preserved : goal.loop-after-preserved
loop-after-preserved c = rest-goes_on (items operand_of) _ _ _ _ _ c.loop-after.invariant c.in_ok-after.ensures.item c.in-Some.ensures.read
