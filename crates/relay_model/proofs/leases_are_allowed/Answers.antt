use Rattle.relay_model.proofs.Exact.{lease_allowed}
use Rattle.relay_model.proofs.leases_are_allowed.Goals as goal

pub returns : goal.returns
returns c = lease_allowed
