use Rattle.std.proofs.Common.{◌≡◌, map, take}
use Rattle.monitor_core.specs.Tables.{averages_row}
use Rattle.monitor_core.proofs.tables.averages_rows.Given as goal

abbrev pub invariant-loop-database : goal.invariant-loop-database
invariant-loop-database l = l.rows.items ≡ map (averages_row l.period) (take l.database-index l.databases)
