use Rattle.std.proofs.Common.{◌≡◌, ◌+◌, length, take, drop}
use Rattle.std.specs.List.{flat_map}
use Rattle.message_view.specs.Bodies.{value}
use Rattle.message_view.specs.Left.{values_left}
use Rattle.message_view.proofs.lists.Values.value.Given as goal

abbrev pub invariant-loop : goal.invariant-loop
invariant-loop l = record {
  items : values_left l.left ≡ drop l.counter (values_left l.fn.self);
  block : l.left.rest.ref_ptr.0 ≡ l.fn.self.rest.ref_ptr.0;
  place : l.left.rest.ref_ptr.1 ≡ length (flat_map value (take l.counter (values_left l.fn.self))) + l.fn.self.rest.ref_ptr.1;
}
