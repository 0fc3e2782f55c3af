use Rattle.world_story.proofs.Repeating.{repeated}
use Rattle.world_story.proofs.repeated_keys_strike.Goals as goal

pub returns : goal.returns
returns c = repeated
