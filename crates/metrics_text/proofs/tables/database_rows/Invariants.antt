use Rattle.std.proofs.Common.{◌≡◌, map, take}
use Rattle.metrics_text.specs.Metrics.{database_row}
use Rattle.metrics_text.proofs.tables.database_rows.Given as goal

abbrev pub invariant-loop-row : goal.invariant-loop-row
invariant-loop-row l = l.rows.items ≡ map (database_row l.view) (take l.row-index l.listed)
