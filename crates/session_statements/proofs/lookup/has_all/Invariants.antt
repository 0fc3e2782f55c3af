use Rattle.std.proofs.Common.{◌≡◌, drop, map}
use Rattle.std.specs.Arc.{arc_value}
use Rattle.session_values.specs.Lookups.{has_all}
use Rattle.session_statements.proofs.lookup.has_all.Given as goal

abbrev pub invariant-loop-text : goal.invariant-loop-text
invariant-loop-text l = has_all (map arc_value l.texts) (drop l.text-index l.wanted) ≡ has_all (map arc_value l.texts) l.wanted
