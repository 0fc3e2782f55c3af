use Rattle.std.proofs.Common.{◌≡◌, ◌++◌, drop, map}
use Rattle.std.specs.List.{flat_map}
use Rattle.std.specs.Arc.{arc_value}
use Rattle.frame_view.specs.Frames.{spelling}
use Rattle.session_values.specs.State.{reports_from}
use Rattle.session_state.proofs.ready.put_reports.Given as goal

abbrev pub invariant-loop-place : goal.invariant-loop-place
invariant-loop-place l = l.out.items ++ flat_map spelling (reports_from (drop l.place l.parameters) (map arc_value (drop l.place l.current)) (map arc_value (drop l.place l.reported))) ≡ l.fn.out.items ++ flat_map spelling (reports_from l.parameters (map arc_value l.current) (map arc_value l.reported))
