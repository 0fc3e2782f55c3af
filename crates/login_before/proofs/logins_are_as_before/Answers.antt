use Rattle.login_before.proofs.Same.{logins_are_as_before as are_as_before}
use Rattle.login_before.proofs.logins_are_as_before.Goals as goal

pub returns : goal.returns
returns c = are_as_before
