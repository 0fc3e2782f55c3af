use Rattle.world_steps.proofs.Groups.{bytes_keep}
use Rattle.world_steps.proofs.byte_steps_keep.Goals as goal

pub returns : goal.returns
returns c = bytes_keep
