use Rattle.login_run.proofs.Allowing.{cancelling_asked}
use Rattle.login_run.proofs.laws.cancelling_runs_have_asked.Goals as goal

pub returns : goal.returns
returns c = cancelling_asked
