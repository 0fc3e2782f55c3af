use Rattle.key_laws.proofs.ByName.{stub_keys_are_lawful}
use Rattle.key_laws.proofs.laws.stub_keys_are_lawful.Goals as goal

pub returns : goal.returns
returns c = stub_keys_are_lawful
