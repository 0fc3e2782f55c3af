use Rattle.std.proofs.Common.{◌≡◌, take, map}
use Rattle.std.specs.Arc.{arc_value}
use Rattle.session_values.specs.Runs.{column_of}
use Rattle.session_statements.proofs.rows.places.Given as goal

abbrev pub invariant-loop-name : goal.invariant-loop-name
invariant-loop-name l = l.places.items ≡ map (column_of (map arc_value l.columns)) (take l.name-index l.selected)
