use Rattle.world_story.proofs.Told.{story}
use Rattle.world_story.proofs.two_clients_one_link.Goals as goal

pub returns : goal.returns
returns c = story c.every_world.ensures.whole
