use Rattle.std.proofs.Common.{◌≡◌, map, take}
use Rattle.monitor_core.specs.Tables.{pool_row}
use Rattle.monitor_core.proofs.pools.pool_rows.Given as goal

abbrev pub invariant-loop-pool : goal.invariant-loop-pool
invariant-loop-pool l = l.rows.items ≡ map (pool_row l.view) (take l.pool-index l.pools)
