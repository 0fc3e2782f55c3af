use Rattle.std.proofs.Common.{◌≡◌, ◌++◌, drop, map}
use Rattle.std.specs.Arc.{arc_value}
use Rattle.session_values.specs.Runs.{picked}
use Rattle.session_statements.proofs.rows.picked_rows.Given as goal

abbrev pub invariant-loop-row : goal.invariant-loop-row
invariant-loop-row l = map arc_value l.list.items ++ map (picked l.places) (map arc_value (drop l.row-index l.rows)) ≡ map (picked l.places) (map arc_value l.rows)
