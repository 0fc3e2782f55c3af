use Rattle.std.proofs.Common.{◌≡◌}
use Rattle.session_values.specs.State.{has_text}
use Rattle.session_catalogue.specs.FieldsLeft.{fields_left}
use Rattle.session_catalogue.proofs.catalogue_fields.Fields.has.Given as goal

abbrev pub invariant-loop-field : goal.invariant-loop-field
invariant-loop-field l = has_text (fields_left l.field-iterator) l.text ≡ has_text (fields_left l.fn.self) l.text
