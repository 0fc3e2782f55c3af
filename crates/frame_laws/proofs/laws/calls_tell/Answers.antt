use Rattle.frame_laws.proofs.Telling.{calls-tell}
use Rattle.frame_laws.proofs.laws.calls_tell.Goals as goal

pub returns : goal.returns
returns c = calls-tell
