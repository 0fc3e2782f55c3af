use Rattle.stub_server.proofs.Connecting.{hears, hears_no_memory, reads_over}
use Rattle.stub_server.proofs.connection.hear.Goals as goal

pub returns-in-Ok : goal.returns-in-Ok
returns-in-Ok g c = hears _ _ _ _ _ _ c.in-Count.ensures.reads c.in-Ok.ensures.hears

pub returns-in-Err : goal.returns-in-Err
returns-in-Err g c = hears_no_memory _ _ _ _ _ _ c.in-Count.ensures.reads

pub returns-in-Ended : goal.returns-in-Ended
returns-in-Ended g c = reads_over _ _ _ _ c.read_some.result _ c.in-Ended.is c.read_some.ensures.reads
