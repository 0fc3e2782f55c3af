-- An answer that is cut frame by frame.
use Rattle.std.specs.Prelude.{ℕ, List}
use Rattle.frame_view.specs.Frames.{FrameOf, frames}
use Rattle.frame_view.specs.declared.Side.TheVariants.{Server}
use Rattle.link_run.specs.declared.reply.ReplyFrames.{ReplyFrames}
use Rattle.link_run.specs.declared.reply.TheConstants.{MAX_REPLY}

-- the whole frames that are still to be cut
abbrev pub frames_left : ReplyFrames → List FrameOf
frames_left s = (frames Server MAX_REPLY s.rest.now).frames

-- the bytes behind them
abbrev pub rest_left : ReplyFrames → List ℕ
rest_left s = (frames Server MAX_REPLY s.rest.now).rest
