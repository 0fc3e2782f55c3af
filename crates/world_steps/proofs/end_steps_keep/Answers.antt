use Rattle.world_steps.proofs.Groups.{ends_keep}
use Rattle.world_steps.proofs.end_steps_keep.Goals as goal

pub returns : goal.returns
returns c = ends_keep
