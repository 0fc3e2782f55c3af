use Rattle.std.proofs.Common.{◌≡◌, ◌++◌, map}
use Rattle.session_catalogue.specs.Catalogues.{value_of}
use Rattle.session_catalogue.specs.FieldsLeft.{fields_left}
use Rattle.session_catalogue.proofs.catalogue_fields.Fields.values.Given as goal

abbrev pub invariant-loop-field : goal.invariant-loop-field
invariant-loop-field l = l.values.items ++ map value_of (fields_left l.field-iterator) ≡ map value_of (fields_left l.fn.self)
