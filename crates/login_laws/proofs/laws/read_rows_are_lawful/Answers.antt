use Rattle.login_laws.proofs.ByName.{read_rows_are_lawful}
use Rattle.login_laws.proofs.laws.read_rows_are_lawful.Goals as goal

pub returns : goal.returns
returns c = read_rows_are_lawful
