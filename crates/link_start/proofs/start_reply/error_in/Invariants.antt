use Rattle.std.proofs.Common.{◌≡◌, length}
use Rattle.frame_view.specs.Frames.{AreBytes, frames}
use Rattle.frame_view.specs.declared.Side.TheVariants.{Server}
use Rattle.link_run.specs.Replies.{frames_left}
use Rattle.link_run.specs.declared.reply.TheConstants.{MAX_REPLY}
use Rattle.link_start.specs.StartReply.{error_in}
use Rattle.link_start.proofs.start_reply.error_in.Given as goal

abbrev pub invariant-loop-frame : goal.invariant-loop-frame
invariant-loop-frame l = record {
  bytes : AreBytes l.frames.rest.now;
  so_far : error_in (frames_left l.frames) ≡ error_in (frames Server MAX_REPLY l.reply).frames;
}

abbrev pub decreases-loop-frame : goal.decreases-loop-frame
decreases-loop-frame l = length (frames_left l.frames)
