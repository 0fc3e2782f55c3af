use Rattle.login_core.proofs.Growing.{logins}
use Rattle.login_core.proofs.laws.logins_grow.Goals as goal

pub returns : goal.returns
returns c = logins c.packets_grow.ensures
