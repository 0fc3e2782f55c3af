use Rattle.memory_ends.proofs.Moving.{moves_fault, reads_both}
use Rattle.memory_ends.proofs.memory_server.MemoryServer.read.Goals as goal

pub returns-in-Err-clause-moves : goal.returns-in-Err-clause-moves
returns-in-Err-clause-moves c = moves_fault c.args.self.now.standing c.serve.new.self.standing c.fault.new.self.standing c.fault.result c.args.into.now c.fault.ensures.fault c.in-Err.ensures.kept c.fault.ensures.faults

pub returns-in-Ok-clause-moves : goal.returns-in-Ok-clause-moves
returns-in-Ok-clause-moves c = reads_both c.args.self.now.standing c.serve.new.self.standing c.hand_out.new.self.standing _ c.in-Ok.ensures.moves c.hand_out.ensures.moves
