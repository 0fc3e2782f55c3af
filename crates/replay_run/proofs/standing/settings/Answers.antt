use Rattle.std.proofs.Common.{◌∙◌}
use Rattle.replay_run.proofs.StandingText.{settings_spelled}
use Rattle.replay_run.proofs.standing.settings.Goals as goal

pub returns-in-Ok : goal.returns-in-Ok
returns-in-Ok c = c.in-Ok.ensures.1 ∙ settings_spelled
