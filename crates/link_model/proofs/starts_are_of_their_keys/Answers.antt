use Rattle.link_model.proofs.ByName.{starts_are_of_their_keys}
use Rattle.link_model.proofs.starts_are_of_their_keys.Goals as goal

pub returns : goal.returns
returns c = starts_are_of_their_keys
