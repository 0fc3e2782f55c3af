use Rattle.link_model.proofs.ByName.{started_is_fresh}
use Rattle.link_model.proofs.started_is_fresh.Goals as goal

pub returns : goal.returns
returns c = started_is_fresh
