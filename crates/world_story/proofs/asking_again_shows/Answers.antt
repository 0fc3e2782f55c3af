use Rattle.world_story.proofs.Again.{again}
use Rattle.world_story.proofs.asking_again_shows.Goals as goal

pub returns : goal.returns
returns c = again
