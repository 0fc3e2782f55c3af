use Rattle.std.proofs.Common.{◌≡◌, ◌+◌, ◌≤◌, ◌++◌, length, drop, map}
use Rattle.std.specs.List.{flat_map}
use Rattle.frame_view.specs.declared.server.TheConstants.{ROW_DESCRIPTION}
use Rattle.frame_view.specs.Frames.{spelling}
use Rattle.message_view.specs.Bodies.{column, columns_body}
use Rattle.message_view.specs.Messages.{message}
use Rattle.message_view.specs.Parts.{text_column_of}
use Rattle.message_view.proofs.row_writers.put_columns.Given as goal

abbrev pub invariant-loop-column : goal.invariant-loop-column
invariant-loop-column l = record {
  written : l.out.items ++ flat_map column (map text_column_of (drop l.column-index l.columns)) ≡ l.fn.out.items ++ spelling (message ROW_DESCRIPTION (columns_body (map text_column_of l.columns)));
  room : length (flat_map column (map text_column_of (drop l.column-index l.columns))) ≤ l.out.spare;
  left : l.fn.out.spare + length (flat_map column (map text_column_of (drop l.column-index l.columns))) ≤ l.out.spare + (5 + length (columns_body (map text_column_of l.columns)));
}
