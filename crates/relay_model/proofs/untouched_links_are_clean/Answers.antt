use Rattle.relay_model.proofs.Rest.{lease_clean}
use Rattle.relay_model.proofs.untouched_links_are_clean.Goals as goal

pub returns : goal.returns
returns c = lease_clean
