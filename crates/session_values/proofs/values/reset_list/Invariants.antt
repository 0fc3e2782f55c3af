use Rattle.std.proofs.Common.{◌≡◌, ◌++◌, length, drop, map}
use Rattle.std.specs.Arc.{arc_value}
use Rattle.session_values.specs.Runs.{reset_from}
use Rattle.session_values.proofs.values.reset_list.Given as goal

abbrev pub invariant-loop-place : goal.invariant-loop-place
invariant-loop-place l = record {
  values : map arc_value l.list.items ++ reset_from (drop l.place l.parameters) (map arc_value (drop l.place l.current)) (map arc_value (drop l.place l.defaults)) ≡ reset_from l.parameters (map arc_value l.current) (map arc_value l.defaults);
  count : length l.list.items ≡ l.place;
}
