use Rattle.start_before.proofs.Same.{starts_same}
use Rattle.start_before.proofs.starts_are_as_before.Goals as goal

pub returns : goal.returns
returns c = starts_same
