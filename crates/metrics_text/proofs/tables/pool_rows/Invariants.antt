use Rattle.std.proofs.Common.{◌≡◌, map, take}
use Rattle.metrics_text.specs.Metrics.{pool_row}
use Rattle.metrics_text.proofs.tables.pool_rows.Given as goal

abbrev pub invariant-loop-pool : goal.invariant-loop-pool
invariant-loop-pool l = l.rows.items ≡ map (pool_row l.view) (take l.pool-index l.pools)
