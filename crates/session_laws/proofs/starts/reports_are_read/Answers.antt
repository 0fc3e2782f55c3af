use Rattle.session_laws.proofs.ByName.{reports_are_read}
use Rattle.session_laws.proofs.starts.reports_are_read.Goals as goal

pub returns : goal.returns
returns c = reports_are_read
