use Rattle.session_laws.proofs.ByName.{fresh_is_at_rest}
use Rattle.session_laws.proofs.laws.fresh_is_at_rest.Goals as goal

pub returns : goal.returns
returns c = fresh_is_at_rest
