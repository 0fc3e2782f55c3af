use Rattle.std.proofs.Common.{◌≡◌, ◌++◌, drop}
use Rattle.std.specs.List.{flat_map}
use Rattle.metrics_text.specs.Labels.{value_byte}
use Rattle.metrics_text.proofs.labels.put_value.Given as goal

abbrev pub invariant-loop-b : goal.invariant-loop-b
invariant-loop-b l = l.text.items ++ flat_map value_byte (drop l.b-index l.value) ≡ l.fn.text.items ++ flat_map value_byte l.value
