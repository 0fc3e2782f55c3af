use Rattle.login_run.proofs.Allowing.{runs_allowed}
use Rattle.login_run.proofs.laws.runs_are_allowed.Goals as goal

pub returns : goal.returns
returns c = runs_allowed c.login_is_of_its_row.ensures
