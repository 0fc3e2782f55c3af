use Rattle.std.proofs.Common.{◌≡◌, ◌++◌, drop, map}
use Rattle.std.specs.List.{flat_map}
use Rattle.frame_view.specs.Frames.{spelling}
use Rattle.monitor_core.specs.Views.{status_of}
use Rattle.monitor_core.proofs.writing.put_statuses.Given as goal

abbrev pub invariant-loop-name : goal.invariant-loop-name
invariant-loop-name l = l.out.items ++ flat_map spelling (map status_of (drop l.name-index l.statuses)) ≡ l.fn.out.items ++ flat_map spelling (map status_of l.statuses)
