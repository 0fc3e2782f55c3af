use Rattle.world_story.proofs.Lying.{lie}
use Rattle.world_story.proofs.lies_are_given.Goals as goal

pub returns : goal.returns
returns c = lie
