use Rattle.param_track.proofs.Telling.{reports-are_told}
use Rattle.param_track.proofs.laws.reports_are_told.Goals as goal

pub returns : goal.returns
returns c = reports-are_told
