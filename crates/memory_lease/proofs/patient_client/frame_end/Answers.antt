use Rattle.std.proofs.Common.{arith}
use Rattle.frame_view.specs.declared.frames.TheConstants.{MAX_FRAME}
use Rattle.frame_view.specs.declared.Side.TheVariants.{Client}
use Rattle.frame_view.proofs.Taking.{taken_at}
use Rattle.memory_lease.proofs.patient_client.frame_end.Goals as goal

pub returns-in-Whole-clause-some : goal.returns-in-Whole-clause-some
returns-in-Whole-clause-some c =
    let k = taken_at Client MAX_FRAME c.in-Whole.frame c.args.input.now c.args.at (omega arith) c.in-Whole.ensures.tells in
    omega (arith, k.some)

pub returns-in-Whole-clause-within : goal.returns-in-Whole-clause-within
returns-in-Whole-clause-within c = (taken_at Client MAX_FRAME c.in-Whole.frame c.args.input.now c.args.at (omega arith) c.in-Whole.ensures.tells).within
