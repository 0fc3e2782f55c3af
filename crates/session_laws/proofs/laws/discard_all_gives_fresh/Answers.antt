use Rattle.session_laws.proofs.ByName.{discard_all_gives_fresh}
use Rattle.session_laws.proofs.laws.discard_all_gives_fresh.Goals as goal

pub returns : goal.returns
returns c = discard_all_gives_fresh
