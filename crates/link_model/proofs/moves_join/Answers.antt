use Rattle.link_model.proofs.ByName.{moves_join}
use Rattle.link_model.proofs.moves_join.Goals as goal

pub returns : goal.returns
returns c = moves_join
