use Rattle.frame_laws.proofs.Stepping.{steps}
use Rattle.frame_laws.proofs.laws.calls_step.Goals as goal

pub returns : goal.returns
returns c = steps
