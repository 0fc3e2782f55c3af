use Rattle.std.proofs.Common.{arith}
use Rattle.mini_sql.proofs.Decimals.{passed_bound}
use Rattle.mini_sql.proofs.parts.number_at.Goals as goal

pub returns-then-more-gt-MAX_ROWS : goal.returns-then-more-gt-MAX_ROWS
returns-then-more-gt-MAX_ROWS c =
    passed_bound c.args.digits.now c.loop-digit.digit-index c.loop-digit.number _ 2147483647 c.loop-digit-test.true c.loop-digit.invariant.so_far (omega arith) c.if-more-gt-MAX_ROWS.true
