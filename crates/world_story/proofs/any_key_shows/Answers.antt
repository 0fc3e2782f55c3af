use Rattle.world_story.proofs.Passing.{passing}
use Rattle.world_story.proofs.any_key_shows.Goals as goal

pub returns : goal.returns
returns c = passing
