use Rattle.relay_model.proofs.Rest.{lease_used}
use Rattle.relay_model.proofs.settled_links_are_used.Goals as goal

pub returns : goal.returns
returns c = λ p v. lease_used p v c.settled_exactly.ensures
