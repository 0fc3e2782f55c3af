use Rattle.login_run.proofs.Allowing.{passed_let_in}
use Rattle.login_run.proofs.laws.passed_runs_are_let_in.Goals as goal

pub returns : goal.returns
returns c = passed_let_in c.login_is_of_its_row.ensures
