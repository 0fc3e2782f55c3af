use Rattle.std.proofs.Common.{◌≡◌, length}
use Rattle.frame_view.specs.Frames.{frames}
use Rattle.frame_view.specs.declared.Side.TheVariants.{Server}
use Rattle.link_run.specs.Replies.{frames_left, rest_left}
use Rattle.link_run.specs.declared.reply.TheConstants.{MAX_REPLY}
use Rattle.link_start.specs.StartReply.{heard_all}
use Rattle.link_start.specs.declared.start_reply.StartProgress.TheVariants.{Nothing}
use Rattle.link_start.proofs.start_reply.read_start_reply.Given as goal

abbrev pub invariant-loop-frame : goal.invariant-loop-frame
invariant-loop-frame l = record {
  so_far : heard_all l.credential l.heard (frames_left l.frames) ≡ heard_all l.credential Nothing (frames Server MAX_REPLY l.reply).frames;
  rest : rest_left l.frames ≡ (frames Server MAX_REPLY l.reply).rest;
}

abbrev pub decreases-loop-frame : goal.decreases-loop-frame
decreases-loop-frame l = length (frames_left l.frames)
