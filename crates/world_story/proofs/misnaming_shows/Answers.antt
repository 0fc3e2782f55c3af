use Rattle.world_story.proofs.Misnaming.{misnaming}
use Rattle.world_story.proofs.misnaming_shows.Goals as goal

pub returns : goal.returns
returns c = misnaming
