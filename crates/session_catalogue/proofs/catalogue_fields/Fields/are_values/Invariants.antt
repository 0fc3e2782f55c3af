use Rattle.std.proofs.Common.{◌≡◌}
use Rattle.std.specs.List.{list_all}
use Rattle.session_catalogue.specs.Catalogues.{is_value}
use Rattle.session_catalogue.specs.FieldsLeft.{fields_left}
use Rattle.session_catalogue.proofs.catalogue_fields.Fields.are_values.Given as goal

abbrev pub invariant-loop-field : goal.invariant-loop-field
invariant-loop-field l = list_all is_value (fields_left l.field-iterator) ≡ list_all is_value (fields_left l.fn.self)
