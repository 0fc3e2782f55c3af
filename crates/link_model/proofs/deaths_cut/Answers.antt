use Rattle.link_model.proofs.Futures.{deaths-cut}
use Rattle.link_model.proofs.deaths_cut.Goals as goal

pub returns : goal.returns
returns c = deaths-cut c.spelled_is_front.ensures c.spelled_is_first.ensures c.first_spelled_is_read.ensures
