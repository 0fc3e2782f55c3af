use Rattle.std.proofs.Common.{◌≡◌, length}
use Rattle.session_values.specs.Runs.{are_distinct}
use Rattle.session_catalogue.specs.FieldsLeft.{fields_left}
use Rattle.session_catalogue.proofs.catalogue_fields.Fields.are_distinct.Given as goal

abbrev pub invariant-loop-field : goal.invariant-loop-field
invariant-loop-field l = are_distinct (fields_left l.rest) ≡ are_distinct (fields_left l.fn.self)

abbrev pub decreases-loop-field : goal.decreases-loop-field
decreases-loop-field l = length (fields_left l.rest)
