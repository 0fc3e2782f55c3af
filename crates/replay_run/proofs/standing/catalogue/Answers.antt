use Rattle.replay_run.proofs.StandingText.{standing_read}
use Rattle.replay_run.proofs.standing.catalogue.Goals as goal

pub returns-in-Ok : goal.returns-in-Ok
returns-in-Ok c = standing_read c.in-Ok.catalogue c.in-Ok.ensures
