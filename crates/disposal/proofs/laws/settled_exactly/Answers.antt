use Rattle.disposal.proofs.Settling.{settled-exactly}
use Rattle.disposal.proofs.laws.settled_exactly.Goals as goal

pub returns : goal.returns
returns c = settled-exactly
