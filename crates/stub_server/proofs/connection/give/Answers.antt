use Rattle.stub_server.proofs.Connecting.{writes_over}
use Rattle.stub_server.proofs.connection.give.Goals as goal

pub returns-in-Ended : goal.returns-in-Ended
returns-in-Ended g c = writes_over _ _ _ _ c.write_some.result _ c.in-Ended.is c.write_some.ensures.writes
