use Rattle.world_steps.proofs.Groups.{clients_keep}
use Rattle.world_steps.proofs.client_steps_keep.Goals as goal

pub returns : goal.returns
returns c = clients_keep
