use Rattle.std.proofs.Common.{◌≡◌, map, take}
use Rattle.metrics_text.specs.Metrics.{stats_row}
use Rattle.metrics_text.proofs.tables.stats_rows.Given as goal

abbrev pub invariant-loop-database : goal.invariant-loop-database
invariant-loop-database l = l.rows.items ≡ map stats_row (take l.database-index l.databases)
