use Rattle.std.proofs.Common.{arith}
use Rattle.frame_view.specs.declared.Side.TheVariants.{Client}
use Rattle.frame_view.proofs.Taking.{taken_at}
use Rattle.session_machine.proofs.Serving.{frame_answered, frames_ended}
use Rattle.session_machine.proofs.service.answer_all.Goals as goal

pub loop-frame-smaller : goal.loop-frame-smaller
loop-frame-smaller c =
    let k = taken_at Client 2147483647 c.in-Whole.frame c.args.bytes.now c.loop-frame.at c.loop-frame.invariant.within c.in-Whole.ensures.tells in
    omega (arith, k.within, k.some)

pub loop-frame-preserved : goal.loop-frame-preserved
loop-frame-preserved c = record {
  within = (taken_at Client 2147483647 c.in-Whole.frame c.args.bytes.now c.loop-frame.at c.loop-frame.invariant.within c.in-Whole.ensures.tells).within;
  so_far = frame_answered c.args.catalogue.now c.loop-frame.session c.answer.new.session c.args.bytes.now c.loop-frame.at c.loop-frame.out.items c.answer.new.out.items _ c.in-Whole.frame c.loop-frame.invariant.within c.in-Whole.ensures.tells c.in_ok-answer.ensures c.loop-frame.invariant.so_far;
}

pub returns : goal.returns
returns c = frames_ended c.args.catalogue.now c.loop-frame.session c.next_frame.result _ c.loop-frame.out.items _ c.in_default.not-Whole c.next_frame.ensures.tells c.loop-frame.invariant.so_far
