use Rattle.world_story.proofs.OthersTold.{others}
use Rattle.world_story.proofs.other_steps_are_taken.Goals as goal

pub returns : goal.returns
returns c = others
