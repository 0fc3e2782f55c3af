use Rattle.std.proofs.Common.{◌≡◌, length, take, map}
use Rattle.session_values.specs.Runs.{cell}
use Rattle.session_statements.proofs.rows.picked.Given as goal

abbrev pub invariant-loop-place : goal.invariant-loop-place
invariant-loop-place l = record {
  values : l.values.items ≡ map (cell l.row) (take l.place-index l.places);
  width : length l.values.items ≡ l.place-index;
}
