use Rattle.login_core.proofs.Telling.{new_tells}
use Rattle.login_core.proofs.laws.new_tells.Goals as goal

pub returns : goal.returns
returns c = new_tells
