use Rattle.frame_laws.proofs.Relaying.{bodies-go_on}
use Rattle.frame_laws.proofs.laws.bodies_go_on.Goals as goal

pub returns : goal.returns
returns c = bodies-go_on
