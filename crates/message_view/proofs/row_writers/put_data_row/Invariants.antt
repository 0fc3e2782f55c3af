use Rattle.std.proofs.Common.{◌≡◌, ◌+◌, ◌≤◌, ◌++◌, length, drop}
use Rattle.std.specs.List.{flat_map}
use Rattle.frame_view.specs.declared.frames.TheConstants.{MAX_FRAME}
use Rattle.frame_view.specs.Frames.{spelling}
use Rattle.message_view.specs.Bodies.{value, values}
use Rattle.message_view.specs.Messages.{data_row}
use Rattle.message_view.specs.Parts.{row_of}
use Rattle.message_view.proofs.row_writers.put_data_row.Given as goal

abbrev pub invariant-loop-value : goal.invariant-loop-value
invariant-loop-value l = record {
  written : l.out.items ++ flat_map value (row_of (drop l.value-index l.row)) ≡ l.fn.out.items ++ spelling (data_row (row_of l.row));
  room : length (flat_map value (row_of (drop l.value-index l.row))) ≤ l.out.spare;
  left : l.fn.out.spare + length (flat_map value (row_of (drop l.value-index l.row))) ≤ l.out.spare + (5 + length (values (row_of l.row)));
  fits : length (flat_map value (row_of (drop l.value-index l.row))) + 4 ≤ MAX_FRAME;
}
