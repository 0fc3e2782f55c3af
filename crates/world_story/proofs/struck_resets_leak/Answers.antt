use Rattle.world_story.proofs.Marked.{struck_reset}
use Rattle.world_story.proofs.struck_resets_leak.Goals as goal

pub returns : goal.returns
returns c = struck_reset
