use Rattle.std.proofs.Common.{◌≡◌, ◌++◌, drop, map}
use Rattle.std.specs.Arc.{arc_value}
use Rattle.session_values.specs.Extended.{orphaned}
use Rattle.session_state.proofs.kept.orphaned.Given as goal

abbrev pub invariant-loop-portal : goal.invariant-loop-portal
invariant-loop-portal l = map arc_value l.list.items ++ map (orphaned l.name) (map arc_value (drop l.portal-index l.portals)) ≡ map (orphaned l.name) (map arc_value l.portals)
