use Rattle.std.proofs.Common.{◌≡◌, map, take}
use Rattle.monitor_core.specs.Tables.{totals_row}
use Rattle.monitor_core.proofs.tables.totals_rows.Given as goal

abbrev pub invariant-loop-database : goal.invariant-loop-database
invariant-loop-database l = l.rows.items ≡ map totals_row (take l.database-index l.databases)
