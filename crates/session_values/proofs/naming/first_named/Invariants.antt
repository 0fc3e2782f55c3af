use Rattle.std.proofs.Common.{◌≡◌, drop, map}
use Rattle.std.specs.Arc.{arc_value}
use Rattle.session_values.specs.Named.{named}
use Rattle.session_values.proofs.naming.first_named.Given as goal

abbrev pub invariant-loop-item : goal.invariant-loop-item
invariant-loop-item g l = named g.T.HasName.name_of (map arc_value (drop l.item-index l.list)) l.name ≡ named g.T.HasName.name_of (map arc_value l.list) l.name
