use Rattle.world_story.proofs.Marked.{late}
use Rattle.world_story.proofs.late_cancels_strike.Goals as goal

pub returns : goal.returns
returns c = late
