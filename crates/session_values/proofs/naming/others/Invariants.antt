use Rattle.std.proofs.Common.{◌≡◌, ◌++◌, drop, map}
use Rattle.std.specs.Arc.{arc_value}
use Rattle.session_values.specs.Named.{without}
use Rattle.session_values.proofs.naming.others.Given as goal

abbrev pub invariant-loop-item : goal.invariant-loop-item
invariant-loop-item g l = map arc_value l.others.items ++ without g.T.HasName.name_of (map arc_value (drop l.item-index l.list)) l.name ≡ without g.T.HasName.name_of (map arc_value l.list) l.name
