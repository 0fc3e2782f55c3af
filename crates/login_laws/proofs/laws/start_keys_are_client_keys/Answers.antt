use Rattle.login_laws.proofs.ByName.{start_keys_are_client_keys}
use Rattle.login_laws.proofs.laws.start_keys_are_client_keys.Goals as goal

pub returns : goal.returns
returns c = start_keys_are_client_keys
