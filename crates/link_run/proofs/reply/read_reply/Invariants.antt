use Rattle.std.proofs.Common.{◌≡◌, length}
use Rattle.frame_view.specs.Frames.{frames}
use Rattle.frame_view.specs.declared.Side.TheVariants.{Server}
use Rattle.link_run.specs.Dialogues.{answered_by_all}
use Rattle.link_run.specs.Replies.{frames_left, rest_left}
use Rattle.link_run.specs.declared.reply.Answered.TheVariants.{Nothing}
use Rattle.link_run.specs.declared.reply.TheConstants.{MAX_REPLY}
use Rattle.link_run.proofs.reply.read_reply.Given as goal

abbrev pub invariant-loop-frame : goal.invariant-loop-frame
invariant-loop-frame l = record {
  so_far : answered_by_all l.answered (frames_left l.frames) ≡ answered_by_all Nothing (frames Server MAX_REPLY l.reply).frames;
  rest : rest_left l.frames ≡ (frames Server MAX_REPLY l.reply).rest;
}

abbrev pub decreases-loop-frame : goal.decreases-loop-frame
decreases-loop-frame l = length (frames_left l.frames)
