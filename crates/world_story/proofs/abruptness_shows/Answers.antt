use Rattle.world_story.proofs.AbruptTold.{abruptness}
use Rattle.world_story.proofs.abruptness_shows.Goals as goal

pub returns : goal.returns
returns c = abruptness
