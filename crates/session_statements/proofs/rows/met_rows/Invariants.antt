use Rattle.std.proofs.Common.{◌≡◌, ◌++◌, drop, filter, map}
use Rattle.std.specs.Arc.{arc_value}
use Rattle.session_values.specs.Runs.{meets}
use Rattle.session_statements.proofs.rows.met_rows.Given as goal

abbrev pub invariant-loop-row : goal.invariant-loop-row
invariant-loop-row l = map arc_value l.list.items ++ filter (meets l.condition) (map arc_value (drop l.row-index l.rows)) ≡ filter (meets l.condition) (map arc_value l.rows)
