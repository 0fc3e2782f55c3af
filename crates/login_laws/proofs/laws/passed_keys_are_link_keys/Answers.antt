use Rattle.login_laws.proofs.ByName.{passed_keys_are_link_keys}
use Rattle.login_laws.proofs.laws.passed_keys_are_link_keys.Goals as goal

pub returns : goal.returns
returns c = passed_keys_are_link_keys
