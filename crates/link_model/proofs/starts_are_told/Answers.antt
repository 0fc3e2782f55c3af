use Rattle.link_model.proofs.ByName.{starts_are_told}
use Rattle.link_model.proofs.starts_are_told.Goals as goal

pub returns : goal.returns
returns c = starts_are_told
