use Rattle.std.proofs.Common.{◌≡◌, ◌++◌, drop, map}
use Rattle.std.specs.List.{flat_map}
use Rattle.std.specs.Arc.{arc_value}
use Rattle.frame_view.specs.Frames.{spelling}
use Rattle.message_view.specs.Messages.{data_row}
use Rattle.session_statements.proofs.output.put_rows.Given as goal

abbrev pub invariant-loop-row : goal.invariant-loop-row
invariant-loop-row l = l.out.items ++ flat_map spelling (map data_row (map arc_value (drop l.row-index l.rows))) ≡ l.fn.out.items ++ flat_map spelling (map data_row (map arc_value l.rows))
