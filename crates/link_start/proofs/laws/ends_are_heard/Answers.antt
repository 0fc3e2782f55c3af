use Rattle.link_start.proofs.Cutting.{heard_on}
use Rattle.link_start.proofs.laws.ends_are_heard.Goals as goal

pub returns : goal.returns
returns c = heard_on
