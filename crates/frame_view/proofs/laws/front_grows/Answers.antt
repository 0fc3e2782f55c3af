use Rattle.frame_view.proofs.Growth.{front-grows}
use Rattle.frame_view.proofs.laws.front_grows.Goals as goal

pub returns : goal.returns
returns c = front-grows
