use Rattle.login_core.proofs.Telling.{steps_say}
use Rattle.login_core.proofs.laws.steps_say.Goals as goal

pub returns : goal.returns
returns c = steps_say
