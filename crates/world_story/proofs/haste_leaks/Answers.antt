use Rattle.world_story.proofs.HastyTold.{haste}
use Rattle.world_story.proofs.haste_leaks.Goals as goal

pub returns : goal.returns
returns c = haste
