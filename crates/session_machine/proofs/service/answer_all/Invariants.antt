use Rattle.std.proofs.Common.{◌≡◌, ◌≤◌, ◌++◌, ◌-◌, [], length, drop}
use Rattle.std.specs.List.{flat_map}
use Rattle.frame_view.specs.Frames.{spelling}
use Rattle.session_values.specs.Service.{client_frames}
use Rattle.session_values.specs.Step.{run_frames}
use Rattle.session_machine.proofs.service.answer_all.Given as goal

abbrev pub invariant-loop-frame : goal.invariant-loop-frame
invariant-loop-frame l = record {
  within : l.at ≤ length l.bytes;
  so_far : l.out.items ++ flat_map spelling (run_frames l.catalogue l.session [] (client_frames (drop l.at l.bytes))).replies ≡ l.fn.out.items ++ flat_map spelling (run_frames l.catalogue l.fn.session [] (client_frames l.bytes)).replies;
}

abbrev pub decreases-loop-frame : goal.decreases-loop-frame
decreases-loop-frame l = length l.bytes - l.at
