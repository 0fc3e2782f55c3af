use Rattle.frame_laws.proofs.Relaying.{heads-open}
use Rattle.frame_laws.proofs.laws.heads_open.Goals as goal

pub returns : goal.returns
returns c = heads-open
