use Rattle.std.proofs.Common.{◌≡◌, ◌++◌, drop, map}
use Rattle.std.specs.Arc.{arc_value}
use Rattle.session_values.specs.State.{held}
use Rattle.session_state.proofs.cursor.all_held.Given as goal

abbrev pub invariant-loop-cursor : goal.invariant-loop-cursor
invariant-loop-cursor l = map arc_value l.list.items ++ map held (map arc_value (drop l.cursor-index l.cursors)) ≡ map held (map arc_value l.cursors)
