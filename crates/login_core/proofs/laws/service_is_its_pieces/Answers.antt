use Rattle.login_core.proofs.Telling.{service_is}
use Rattle.login_core.proofs.laws.service_is_its_pieces.Goals as goal

pub returns : goal.returns
returns c = service_is
