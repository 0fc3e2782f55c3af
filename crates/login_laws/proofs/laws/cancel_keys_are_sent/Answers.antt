use Rattle.login_laws.proofs.Cancelling.{cancel_keys_are_sent as are_sent}
use Rattle.login_laws.proofs.laws.cancel_keys_are_sent.Goals as goal

pub returns : goal.returns
returns c = are_sent c.first_read_is_spelled.ensures
