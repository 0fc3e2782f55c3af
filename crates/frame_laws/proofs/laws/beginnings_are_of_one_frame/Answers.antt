use Rattle.frame_laws.proofs.Relaying.{one-frame}
use Rattle.frame_laws.proofs.laws.beginnings_are_of_one_frame.Goals as goal

pub returns : goal.returns
returns c = one-frame c.front_is_spelled.ensures
