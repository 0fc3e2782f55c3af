use Rattle.std.proofs.Common.{◌∙◌, ap}
use Rattle.std.specs.Prelude.{max}
use Rattle.mini_sql.proofs.Skipping.{greatest-more, greatest-all}
use Rattle.mini_sql.proofs.stmt.greatest_parameter.Goals as goal

pub loop-operand-preserved : goal.loop-operand-preserved
loop-operand-preserved c = greatest-more _ _ _ _ _ _ c.in-Some.ensures.steps c.loop-operand.invariant (c.larger-most.ensures ∙ ap (max c.loop-operand.most) c.parameter.ensures)

pub returns : goal.returns
returns c = greatest-all _ _ _ c.in-None.ensures.steps.0 c.loop-operand.invariant
