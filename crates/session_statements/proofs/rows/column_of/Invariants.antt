use Rattle.std.proofs.Common.{◌≡◌, drop, map}
use Rattle.std.specs.Arc.{arc_value}
use Rattle.session_values.specs.Runs.{column_of, place_from}
use Rattle.session_statements.proofs.rows.column_of.Given as goal

abbrev pub invariant-loop-place : goal.invariant-loop-place
invariant-loop-place l = place_from l.place (map arc_value (drop l.place l.columns)) l.name ≡ column_of (map arc_value l.columns) l.name
