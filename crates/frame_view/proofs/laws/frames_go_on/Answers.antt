use Rattle.frame_view.proofs.Splitting.{frames-go_on}
use Rattle.frame_view.proofs.laws.frames_go_on.Goals as goal

pub returns : goal.returns
returns c = frames-go_on
