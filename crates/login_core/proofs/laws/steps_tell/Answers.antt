use Rattle.login_core.proofs.Telling.{steps_tell}
use Rattle.login_core.proofs.laws.steps_tell.Goals as goal

pub returns : goal.returns
returns c = steps_tell
