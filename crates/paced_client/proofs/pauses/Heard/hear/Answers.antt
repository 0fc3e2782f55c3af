use Rattle.std.proofs.Common.{arith}
use Rattle.frame_view.specs.declared.Side.TheVariants.{Server}
use Rattle.paced_client.proofs.Pausing.{stands, hears_one, hears_all}
use Rattle.paced_client.proofs.pauses.Heard.hear.Goals as goal

pub frames-smaller : goal.frames-smaller
frames-smaller c =
    let s = stands Server c.in-Whole.frame c.args.given.now c.frames.self.end c.frames.invariant.within c.in-Whole.ensures.tells in omega (arith, s.within, s.some)

pub frames-preserved : goal.frames-preserved
frames-preserved c = hears_one c.frames.self c.args.given.now c.in-Whole.frame _ c.frames.invariant c.in-Whole.ensures.tells c.from.ensures

pub returns : goal.returns
returns c = hears_all _ c.frames.self c.args.given.now c.in_default.not-Whole c.next_frame.ensures.tells c.frames.invariant
