use Rattle.std.proofs.Common.{◌∙◌, sym, arith}
use Rattle.paced_client.proofs.Pausing.{stands, ends_pushed, ends_passed, ends_all}
use Rattle.frame_view.specs.declared.Side.TheVariants.{Client}
use Rattle.paced_client.proofs.pauses.put_closing_ends.Goals as goal

pub frames-smaller-in-Continue-1 : goal.frames-smaller-in-Continue-1
frames-smaller-in-Continue-1 c =
    let s = stands Client c.in-Whole.frame c.args.input.now c.frames.at c.frames.invariant.within c.in-Whole.ensures.tells in omega (arith, s.within, s.some)

pub frames-preserved-in-Continue-1 : goal.frames-preserved-in-Continue-1
frames-preserved-in-Continue-1 c = record {
  within = (stands Client c.in-Whole.frame c.args.input.now c.frames.at c.frames.invariant.within c.in-Whole.ensures.tells).within;
  ends = ends_pushed c.in-Whole.frame c.args.input.now _ _ _ c.frames.at c.frames.invariant.within c.in-Whole.ensures.tells (sym c.is_closing.ensures ∙ c.if-is_closing.true) c.in_ok-push.ensures.items c.frames.invariant.ends;
}

pub frames-smaller : goal.frames-smaller
frames-smaller c =
    let s = stands Client c.in-Whole.frame c.args.input.now c.frames.at c.frames.invariant.within c.in-Whole.ensures.tells in omega (arith, s.within, s.some)

pub frames-preserved : goal.frames-preserved
frames-preserved c = record {
  within = (stands Client c.in-Whole.frame c.args.input.now c.frames.at c.frames.invariant.within c.in-Whole.ensures.tells).within;
  ends = ends_passed c.in-Whole.frame c.args.input.now _ _ c.frames.at c.frames.invariant.within c.in-Whole.ensures.tells (sym c.is_closing.ensures ∙ c.if-is_closing.false) c.frames.invariant.ends;
}

pub returns : goal.returns
returns c = ends_all _ c.args.input.now _ _ c.frames.at c.in_default.not-Whole c.next_frame.ensures.tells c.frames.invariant.ends
