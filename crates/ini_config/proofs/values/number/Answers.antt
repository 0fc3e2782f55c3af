use Rattle.std.proofs.Common.{◌<◌, rules, length}
use Rattle.ini_config.proofs.Numbers.{stops_at, stops_above, nothing, below, whole, at_end}
use Rattle.ini_config.proofs.values.number.Goals as goal

pub returns-then-not-is_ascii_digit-clause-value : goal.returns-then-not-is_ascii_digit-clause-value
returns-then-not-is_ascii_digit-clause-value c =
    stops_at c.args.low c.args.high c.args.text.now c.loop-digit.digit-index c.loop-digit-test.true (search rules) c.loop-digit.invariant.digits

pub returns-then-total-from-clause-value : goal.returns-then-total-from-clause-value
returns-then-total-from-clause-value c =
    stops_above c.args.low c.args.high c.loop-digit.total c.args.text.now c.loop-digit.digit-index c.loop-digit-test.true c.loop-digit.invariant.value (search rules)

pub returns-then-is_empty-clause-value : goal.returns-then-is_empty-clause-value
returns-then-is_empty-clause-value c = nothing c.args.low c.args.high c.args.text.now (search rules)

pub returns-then-total-from-2-clause-value : goal.returns-then-total-from-2-clause-value
returns-then-total-from-2-clause-value c =
    let end = at_end c.loop-digit.total c.args.text.now c.loop-digit.digit-index c.loop-digit-test.false c.loop-digit.invariant.value c.loop-digit.invariant.digits in
    below c.args.low c.args.high c.args.text.now (let under : c.loop-digit.total < c.args.low = search rules in rw (← end.0) under)

pub returns-clause-value : goal.returns-clause-value
returns-clause-value c =
    let end = at_end c.loop-digit.total c.args.text.now c.loop-digit.digit-index c.loop-digit-test.false c.loop-digit.invariant.value c.loop-digit.invariant.digits in
    let some : 0 < length c.args.text.now = search rules in
    whole c.args.low c.args.high c.loop-digit.total c.args.text.now end.1 some end.0 (search rules) c.loop-digit.invariant.bounded
