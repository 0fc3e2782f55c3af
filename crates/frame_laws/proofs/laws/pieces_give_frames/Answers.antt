use Rattle.frame_laws.proofs.Pieces.{pieces-frames}
use Rattle.frame_laws.proofs.laws.pieces_give_frames.Goals as goal

pub returns : goal.returns
returns c = pieces-frames
