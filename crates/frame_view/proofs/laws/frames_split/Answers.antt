use Rattle.frame_view.proofs.Splitting.{frames-split}
use Rattle.frame_view.proofs.laws.frames_split.Goals as goal

pub returns : goal.returns
returns c = frames-split
