use Rattle.link_model.proofs.Futures.{futures-stay}
use Rattle.link_model.proofs.futures_stay.Goals as goal

pub returns : goal.returns
returns c = futures-stay c.spelled_is_front.ensures c.spelled_is_first.ensures c.first_spelled_is_read.ensures
