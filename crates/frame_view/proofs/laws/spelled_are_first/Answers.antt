use Rattle.frame_view.proofs.Splitting.{frames-spellings}
use Rattle.frame_view.proofs.laws.spelled_are_first.Goals as goal

pub returns : goal.returns
returns c = frames-spellings
