use Rattle.std.proofs.Common.{◌≡◌, drop, map}
use Rattle.std.specs.List.{position_from}
use Rattle.std.specs.Arc.{arc_value}
use Rattle.session_values.specs.Named.{is_named}
use Rattle.session_values.proofs.naming.place_of.Given as goal

abbrev pub invariant-loop-place : goal.invariant-loop-place
invariant-loop-place g l = position_from (is_named g.T.HasName.name_of l.name) l.place (map arc_value (drop l.place l.list)) ≡ position_from (is_named g.T.HasName.name_of l.name) 0 (map arc_value l.list)
