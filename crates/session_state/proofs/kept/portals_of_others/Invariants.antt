use Rattle.std.proofs.Common.{◌≡◌, ◌++◌, drop, filter, map}
use Rattle.std.specs.Arc.{arc_value}
use Rattle.session_values.specs.Extended.{is_of_other}
use Rattle.session_state.proofs.kept.portals_of_others.Given as goal

abbrev pub invariant-loop-portal : goal.invariant-loop-portal
invariant-loop-portal l = map arc_value l.list.items ++ filter (is_of_other l.name) (map arc_value (drop l.portal-index l.portals)) ≡ filter (is_of_other l.name) (map arc_value l.portals)
