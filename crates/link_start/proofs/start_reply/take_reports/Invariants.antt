use Rattle.std.proofs.Common.{◌≡◌}
use Rattle.frame_view.specs.Frames.{frames}
use Rattle.frame_view.specs.declared.Side.TheVariants.{Server}
use Rattle.link_run.specs.Replies.{frames_left}
use Rattle.link_run.specs.declared.reply.TheConstants.{MAX_REPLY}
use Rattle.link_run.specs.Dialogues.{reported_all}
use Rattle.link_start.proofs.start_reply.take_reports.Given as goal

abbrev pub invariant-loop-frame : goal.invariant-loop-frame
invariant-loop-frame l = reported_all l.reported (frames_left l.frame-iterator) ≡ reported_all l.fn.reported (frames Server MAX_REPLY l.reply).frames
