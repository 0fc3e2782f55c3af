use Rattle.std.proofs.Common.{◌≡◌, ◌&&◌}
use Rattle.frame_view.specs.Frames.{frames}
use Rattle.frame_view.specs.declared.Side.TheVariants.{Server}
use Rattle.link_run.specs.Links.{after_frames}
use Rattle.link_run.specs.Dialogues.{are_known}
use Rattle.link_run.specs.Replies.{frames_left}
use Rattle.link_run.specs.declared.reply.TheConstants.{MAX_REPLY}
use Rattle.link_run.proofs.reply.tell_reports.Given as goal

abbrev pub invariant-loop-frame : goal.invariant-loop-frame
invariant-loop-frame l = record {
  told : after_frames l.reported (frames_left l.frame-iterator) ≡ after_frames l.fn.reported (frames Server MAX_REPLY l.reply).frames;
  known : (l.known && are_known l.reported (frames_left l.frame-iterator)) ≡ are_known l.fn.reported (frames Server MAX_REPLY l.reply).frames;
}
