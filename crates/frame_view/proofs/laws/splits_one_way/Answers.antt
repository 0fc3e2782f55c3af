use Rattle.frame_view.proofs.Splitting.{splits-one_way}
use Rattle.frame_view.proofs.laws.splits_one_way.Goals as goal

pub returns : goal.returns
returns c = splits-one_way
