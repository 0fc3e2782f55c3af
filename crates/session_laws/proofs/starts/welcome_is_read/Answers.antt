use Rattle.session_laws.proofs.ByName.{welcome_is_read}
use Rattle.session_laws.proofs.starts.welcome_is_read.Goals as goal

pub returns : goal.returns
returns c = welcome_is_read
