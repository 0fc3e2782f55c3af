use Rattle.param_track.proofs.Telling.{at_start-exactly}
use Rattle.param_track.proofs.laws.at_start_exactly.Goals as goal

pub returns : goal.returns
returns c = at_start-exactly
