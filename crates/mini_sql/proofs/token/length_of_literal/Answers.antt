use Rattle.std.proofs.Common.{◌+◌, ◌<◌, length, arith, sym, ◌∙◌, ap}
use Rattle.mini_sql.proofs.Quotes.{to_stop, no_stop, stop-zero, stop-end, stop-last, stop-doubled, joined, ended, further-further}
use Rattle.mini_sql.specs.Tokens.{further}
use Rattle.mini_sql.proofs.token.length_of_literal.Goals as goal

pub returns-then-text-at-eq0-clause-length : goal.returns-then-text-at-eq0-clause-length
returns-then-text-at-eq0-clause-length c =
    let xs = c.args.text.now in
    let found = to_stop xs c.loop-k.done c.in-Some.k c.loop-k.invariant.0 c.in-Some.ensures in
    sym (joined _ _ _ _ _ _ c.loop-k.invariant.1 found.0 (stop-zero xs _ c.if-text-at-eq0.true found.1))

pub returns-then-at-text-clause-length : goal.returns-then-at-text-clause-length
returns-then-at-text-clause-length c =
    let xs = c.args.text.now in
    let found = to_stop xs c.loop-k.done c.in-Some.k c.loop-k.invariant.0 c.in-Some.ensures in
    sym (ended _ _ _ _ _ c.loop-k.invariant.1 found.0 (stop-end xs _ found.2 c.if-text-at-eq0.false c.if-at-text.true))

pub returns-then-text-at-ne39-clause-length : goal.returns-then-text-at-ne39-clause-length
returns-then-text-at-ne39-clause-length c =
    let xs = c.args.text.now in
    let found = to_stop xs c.loop-k.done c.in-Some.k c.loop-k.invariant.0 c.in-Some.ensures in
    sym (ended _ _ _ _ _ c.loop-k.invariant.1 found.0 (stop-last xs _ found.2 c.if-text-at-eq0.false (omega (arith, c.if-at-text.false, found.1)) c.if-text-at-ne39.true))

pub loop-k-preserved : goal.loop-k-preserved
loop-k-preserved c =
    let xs = c.args.text.now in
    let found = to_stop xs c.loop-k.done c.in-Some.k c.loop-k.invariant.0 c.in-Some.ensures in
    let more : c.loop-k.done + c.in-Some.k + 1 < length xs = omega (arith, c.if-at-text.false, found.1) in
    (omega arith, joined _ _ _ _ _ _ c.loop-k.invariant.1 found.0 (stop-doubled xs _ found.2 c.if-text-at-eq0.false more c.if-text-at-ne39.false) ∙ further-further _ 2 _)

pub returns-clause-length : goal.returns-clause-length
returns-clause-length c = sym (c.loop-k.invariant.1 ∙ ap (further c.loop-k.done) (no_stop c.args.text.now c.loop-k.done c.loop-k.invariant.0 c.in_default.ensures))
