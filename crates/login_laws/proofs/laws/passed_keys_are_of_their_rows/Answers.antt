use Rattle.login_laws.proofs.ByName.{passed_keys_are_of_their_rows}
use Rattle.login_laws.proofs.laws.passed_keys_are_of_their_rows.Goals as goal

pub returns : goal.returns
returns c = passed_keys_are_of_their_rows
