use Rattle.frame_laws.proofs.Telling.{new-tells}
use Rattle.frame_laws.proofs.laws.new_tells.Goals as goal

pub returns : goal.returns
returns c = new-tells
