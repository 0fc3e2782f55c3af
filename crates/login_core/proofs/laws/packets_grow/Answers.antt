use Rattle.login_core.proofs.Growing.{packets}
use Rattle.login_core.proofs.laws.packets_grow.Goals as goal

pub returns : goal.returns
returns c = packets c.first_grows.ensures c.front_grows.ensures
