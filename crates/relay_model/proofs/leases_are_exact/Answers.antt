use Rattle.relay_model.proofs.Exact.{lease_exact}
use Rattle.relay_model.proofs.leases_are_exact.Goals as goal

pub returns : goal.returns
returns c = lease_exact
