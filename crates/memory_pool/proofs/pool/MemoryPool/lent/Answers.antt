use Rattle.std.proofs.Common.{sym, ◌∙◌}
use Rattle.memory_pool.proofs.Homes.{of_same_key}
use Rattle.memory_pool.proofs.pool.MemoryPool.lent.Goals as goal

pub returns-then-eq-clause-taken : goal.returns-then-eq-clause-taken
returns-then-eq-clause-taken c = (c.requires, sym c.key.ensures ∙ (sym c.deref.ensures ∙ (of_same_key c.deref.result.now c.deref-2.result.now (sym c.eq.ensures ∙ c.if-eq.true) ∙ c.deref-2.ensures)))
