use Rattle.std.proofs.Common.{◌≡◌, ◌++◌, drop, filter, map}
use Rattle.std.specs.Arc.{arc_value}
use Rattle.session_values.specs.State.{is_held}
use Rattle.session_state.proofs.cursor.held_ones.Given as goal

abbrev pub invariant-loop-cursor : goal.invariant-loop-cursor
invariant-loop-cursor l = map arc_value l.list.items ++ filter is_held (map arc_value (drop l.cursor-index l.cursors)) ≡ filter is_held (map arc_value l.cursors)
