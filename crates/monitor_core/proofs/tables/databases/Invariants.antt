use Rattle.std.proofs.Common.{◌≡◌, map, take}
use Rattle.monitor_core.specs.Tables.{database_row}
use Rattle.monitor_core.proofs.tables.databases.Given as goal

abbrev pub invariant-loop-row : goal.invariant-loop-row
invariant-loop-row l = l.rows.items ≡ map (database_row l.view) (take l.row-index l.listed)
