use Rattle.std.proofs.Common.{◌≡◌, map, take}
use Rattle.monitor_core.specs.Tables.{stats_row}
use Rattle.monitor_core.proofs.tables.stats_rows.Given as goal

abbrev pub invariant-loop-database : goal.invariant-loop-database
invariant-loop-database l = l.rows.items ≡ map (stats_row l.period) (take l.database-index l.databases)
