use Rattle.std.proofs.Common.{◌≡◌, ◌++◌, drop, map}
use Rattle.std.specs.List.{flat_map}
use Rattle.frame_view.specs.Frames.{spelling}
use Rattle.console_core.specs.Replies.{row_frame}
use Rattle.monitor_core.proofs.writing.put_rows.Given as goal

abbrev pub invariant-loop-row : goal.invariant-loop-row
invariant-loop-row l = l.out.items ++ flat_map spelling (map row_frame (drop l.row-index l.rows)) ≡ l.fn.out.items ++ flat_map spelling (map row_frame l.rows)
