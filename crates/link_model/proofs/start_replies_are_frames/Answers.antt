use Rattle.link_model.proofs.ByName.{start_replies_are_frames}
use Rattle.link_model.proofs.start_replies_are_frames.Goals as goal

pub returns : goal.returns
returns c = start_replies_are_frames
