use Rattle.login_run.proofs.Allowing.{runs_at_pieces}
use Rattle.login_run.proofs.laws.runs_stand_at_pieces.Goals as goal

pub returns : goal.returns
returns c = runs_at_pieces c.login_is_of_its_row.ensures
