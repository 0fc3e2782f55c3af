use Rattle.frame_laws.proofs.Relaying.{borders-empty}
use Rattle.frame_laws.proofs.laws.borders_are_empty.Goals as goal

pub returns : goal.returns
returns c = borders-empty
