use Rattle.std.proofs.Common.{◌≡◌, ◌-◌, ◌≤◌, ◌++◌, length, drop}
use Rattle.frame_view.specs.declared.Side.TheVariants.{Client}
use Rattle.frame_view.specs.declared.frames.TheConstants.{MAX_FRAME}
use Rattle.frame_view.specs.Frames.{frames}
use Rattle.paced_client.specs.Pauses.{closing_ends}
use Rattle.paced_client.proofs.pauses.put_closing_ends.Given as goal

abbrev pub invariant-frames : goal.invariant-frames
invariant-frames l = record {
  within : l.at ≤ length l.input;
  ends : l.ends.items ++ closing_ends l.at (frames Client MAX_FRAME (drop l.at l.input)).frames ≡ l.initial.ends.items ++ closing_ends l.fn.from (frames Client MAX_FRAME (drop l.fn.from l.input)).frames;
}

abbrev pub decreases-frames : goal.decreases-frames
decreases-frames l = length l.input - l.at
