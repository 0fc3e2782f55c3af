use Rattle.frame_view.proofs.FirstPackets.{first-spelled}
use Rattle.frame_view.proofs.laws.first_read_is_spelled.Goals as goal

pub returns : goal.returns
returns c = first-spelled
