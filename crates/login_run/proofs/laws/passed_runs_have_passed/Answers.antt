use Rattle.login_run.proofs.Allowing.{passed_passed}
use Rattle.login_run.proofs.laws.passed_runs_have_passed.Goals as goal

pub returns : goal.returns
returns c = passed_passed
