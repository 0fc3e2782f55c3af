use Rattle.std.proofs.Common.{◌≡◌, ◌-◌, ◌^◌, length, take}
use Rattle.std.specs.Prelude.{min, map}
use Rattle.std.specs.List.{flat_map}
use Rattle.message_view.specs.Bodies.{column}
use Rattle.message_view.specs.Parts.{text_column_of}
use Rattle.message_view.proofs.row_writers.columns_length.Given as goal

abbrev pub invariant-loop-column : goal.invariant-loop-column
invariant-loop-column l = l.size ≡ min (length (flat_map column (map text_column_of (take l.column-index l.columns)))) (2 ^ 64 - 1)
