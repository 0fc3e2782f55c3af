use Rattle.frame_view.proofs.FirstPackets.{first-spelling}
use Rattle.frame_view.proofs.laws.first_spelled_is_read.Goals as goal

pub returns : goal.returns
returns c = first-spelling
