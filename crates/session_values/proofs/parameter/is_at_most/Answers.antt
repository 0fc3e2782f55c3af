use Rattle.std.proofs.Common.{arith, sym}
use Rattle.session_values.proofs.Digits.{passed_bound}
use Rattle.session_values.proofs.parameter.is_at_most.Goals as goal

pub returns-then-number-high : goal.returns-then-number-high
returns-then-number-high c =
    sym (passed_bound c.args.digits.now c.loop-digit.digit-index c.loop-digit.number _ c.args.high c.loop-digit-test.true c.loop-digit.invariant.so_far (omega arith) c.if-number-high.true)
