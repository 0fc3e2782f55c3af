use Rattle.std.proofs.Common.{◌≡◌, ◌++◌, map}
use Rattle.std.specs.Arc.{arc_value}
use Rattle.session_catalogue.specs.FieldsLeft.{fields_left}
use Rattle.session_catalogue.proofs.catalogue_fields.Fields.texts.Given as goal

abbrev pub invariant-loop-field : goal.invariant-loop-field
invariant-loop-field l = map arc_value l.texts.items ++ fields_left l.field-iterator ≡ fields_left l.fn.self
