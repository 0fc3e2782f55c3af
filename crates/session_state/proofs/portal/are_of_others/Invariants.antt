use Rattle.std.proofs.Common.{◌≡◌, drop, map}
use Rattle.std.specs.Arc.{arc_value}
use Rattle.std.specs.List.{list_all}
use Rattle.session_values.specs.Extended.{is_of_other}
use Rattle.session_state.proofs.portal.are_of_others.Given as goal

abbrev pub invariant-loop-portal : goal.invariant-loop-portal
invariant-loop-portal l = list_all (is_of_other l.name) (map arc_value (drop l.portal-index l.portals)) ≡ list_all (is_of_other l.name) (map arc_value l.portals)
