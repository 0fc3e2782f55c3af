use Rattle.std.specs.Arc.{arc_value}
use Rattle.memory_pool.proofs.pool.MemoryPool.open.Goals as goal

pub start_link-requires-clause-can_start : goal.start_link-requires-clause-can_start
start_link-requires-clause-can_start c = c.requires.server.starts c.new-credential.result (arc_value c.args.key).user
