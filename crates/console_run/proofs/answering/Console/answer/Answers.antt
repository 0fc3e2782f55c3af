use Rattle.std.proofs.Common.{refl}
use Rattle.console_run.proofs.Replying.{simply_responded}
use Rattle.console_run.proofs.answering.Console.answer.Goals as goal

pub returns-in_default : goal.returns-in_default
returns-in_default g c = simply_responded _ c.args.drops c.drops_after.result c.response_to.result _ c.response_bytes.result c.told.result _ _ c.response_to.ensures c.drops_after.ensures c.told.ensures c.in_default.not-Answer c.in_default.not-Leave c.response_bytes.ensures refl
