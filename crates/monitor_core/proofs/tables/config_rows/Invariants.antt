use Rattle.std.proofs.Common.{◌≡◌, map, take}
use Rattle.monitor_core.specs.Tables.{config_row}
use Rattle.monitor_core.proofs.tables.config_rows.Given as goal

abbrev pub invariant-loop-cells : goal.invariant-loop-cells
invariant-loop-cells l = l.rows.items ≡ map config_row (take l.cells-index l.settings)
