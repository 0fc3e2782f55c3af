use Rattle.frame_view.proofs.Cuts.{front-spelling}
use Rattle.frame_view.proofs.laws.spelled_is_front.Goals as goal

pub returns : goal.returns
returns c = front-spelling
