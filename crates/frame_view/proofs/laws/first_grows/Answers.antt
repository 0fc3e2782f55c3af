use Rattle.frame_view.proofs.FirstGrowth.{first-grows}
use Rattle.frame_view.proofs.laws.first_grows.Goals as goal

pub returns : goal.returns
returns c = first-grows
