use Rattle.std.proofs.Common.{◌≡◌, None}
use Rattle.frame_view.specs.Frames.{frames}
use Rattle.frame_view.specs.declared.Side.TheVariants.{Server}
use Rattle.link_run.specs.Replies.{frames_left}
use Rattle.link_run.specs.declared.reply.TheConstants.{MAX_REPLY}
use Rattle.link_run.specs.Dialogues.{keyed_all}
use Rattle.link_start.proofs.start_reply.key_told.Given as goal

abbrev pub invariant-loop-frame : goal.invariant-loop-frame
invariant-loop-frame l = keyed_all l.key (frames_left l.frame-iterator) ≡ keyed_all None (frames Server MAX_REPLY l.reply).frames
