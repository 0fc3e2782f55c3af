use Rattle.link_model.proofs.ByName.{settled_links_rest}
use Rattle.link_model.proofs.settled_links_rest.Goals as goal

pub returns : goal.returns
returns c = settled_links_rest
