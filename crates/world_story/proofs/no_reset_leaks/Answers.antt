use Rattle.world_story.proofs.Leaking.{leak}
use Rattle.world_story.proofs.no_reset_leaks.Goals as goal

pub returns : goal.returns
returns c = leak
