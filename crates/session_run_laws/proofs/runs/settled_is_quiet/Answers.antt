use Rattle.session_run_laws.proofs.ByName.{settled_is_quiet}
use Rattle.session_run_laws.proofs.runs.settled_is_quiet.Goals as goal

pub returns : goal.returns
returns c = settled_is_quiet
