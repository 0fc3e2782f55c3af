use Rattle.std.proofs.Common.{◌≡◌, ◌++◌, drop, map}
use Rattle.std.specs.Arc.{arc_value}
use Rattle.session_statements.proofs.cursors.shared.Given as goal

abbrev pub invariant-loop-row : goal.invariant-loop-row
invariant-loop-row l = map arc_value l.list.items ++ map arc_value (drop l.row-index l.rows) ≡ map arc_value l.rows
