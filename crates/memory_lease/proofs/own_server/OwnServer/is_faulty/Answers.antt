use Rattle.memory_lease.proofs.Marks.{is_marked}
use Rattle.memory_lease.proofs.own_server.OwnServer.is_faulty.Goals as goal

pub returns-clause-marked : goal.returns-clause-marked
returns-clause-marked c = is_marked _ _ _ c.self.view_is
