use Rattle.std.proofs.Common.{◌≡◌}
use Rattle.memory_pool.proofs.pool.MemoryPool.tick.Given as goal

abbrev pub invariant-loop : goal.invariant-loop
invariant-loop l = l.self ≡ l.initial.self
