use Rattle.login_core.proofs.Owning.{its_row}
use Rattle.login_core.proofs.laws.login_is_of_its_row.Goals as goal

pub returns : goal.returns
returns c = its_row
