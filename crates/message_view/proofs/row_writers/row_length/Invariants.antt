use Rattle.std.proofs.Common.{◌≡◌, ◌-◌, ◌^◌, length, take}
use Rattle.std.specs.Prelude.{min}
use Rattle.std.specs.List.{flat_map}
use Rattle.message_view.specs.Bodies.{value}
use Rattle.message_view.specs.Parts.{row_of}
use Rattle.message_view.proofs.row_writers.row_length.Given as goal

abbrev pub invariant-loop-value : goal.invariant-loop-value
invariant-loop-value l = l.size ≡ min (length (flat_map value (row_of (take l.value-index l.row)))) (2 ^ 64 - 1)
