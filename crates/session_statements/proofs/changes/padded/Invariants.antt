use Rattle.std.proofs.Common.{◌≡◌, ◌++◌, length, drop, map}
use Rattle.std.specs.Arc.{arc_value}
use Rattle.session_values.specs.Runs.{padded}
use Rattle.session_statements.proofs.changes.padded.Given as goal

abbrev pub invariant-loop-place : goal.invariant-loop-place
invariant-loop-place l = record {
  row : l.row.items ++ padded (map arc_value (drop l.place l.columns)) (drop l.place l.values) ≡ padded (map arc_value l.columns) l.values;
  width : length l.row.items ≡ l.place;
}
