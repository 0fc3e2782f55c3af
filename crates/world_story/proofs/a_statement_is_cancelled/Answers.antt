use Rattle.world_story.proofs.CancelledTold.{cancel_told}
use Rattle.world_story.proofs.a_statement_is_cancelled.Goals as goal

pub returns : goal.returns
returns c = cancel_told c.every_world.ensures.whole
