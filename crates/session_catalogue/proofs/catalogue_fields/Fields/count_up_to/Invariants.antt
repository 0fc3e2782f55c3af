use Rattle.std.proofs.Common.{◌≡◌, ◌+◌, ◌≤◌, length}
use Rattle.session_catalogue.specs.FieldsLeft.{fields_left}
use Rattle.session_catalogue.proofs.catalogue_fields.Fields.count_up_to.Given as goal

abbrev pub invariant-loop-field : goal.invariant-loop-field
invariant-loop-field l = record {
  counted : l.count + length (fields_left l._field-iterator) ≡ length (fields_left l.fn.self);
  bounded : l.count ≤ l.most;
}
