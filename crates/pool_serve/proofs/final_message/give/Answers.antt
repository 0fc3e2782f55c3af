use Rattle.std.proofs.Common.{ℕ, ◌+◌, ap, arith, sym, subst}
use Rattle.pool_serve.proofs.Giving.{Gives, gave_all, gave_part, gives_late, gives_more}
use Rattle.pool_serve.proofs.final_message.give.Goals as goal
use Rattle.pool_serve.proofs.final_message.give.Goals.{in-Count, in-NotNow}

pub loop-preserved : goal.loop-preserved
loop-preserved g c = record {
  gives = elim c.match-write_some.branch [
    | in-Count w ↦ subst (λ (n : ℕ). Gives (g.C.ClientEnd.facts c.args.client.now) (g.C.ClientEnd.facts c.write_some.new.self) c.args.bytes.now n (c.loop.counter + 1)) (sym w.sent-is) (gives_more _ (g.C.ClientEnd.facts c.loop.client) _ _ c.rest_of.result.now c.loop.sent c.loop.counter w.in-Count.count c.loop.invariant.gives c.rest_of.ensures w.in-Count.ensures.within w.in-Count.ensures.writes)
    | in-NotNow w ↦ subst (λ (n : ℕ). Gives (g.C.ClientEnd.facts c.args.client.now) (g.C.ClientEnd.facts c.write_some.new.self) c.args.bytes.now n (c.loop.counter + 1)) (sym w.sent-is) (gives_late _ (g.C.ClientEnd.facts c.loop.client) _ _ c.rest_of.result.now c.loop.sent c.loop.counter c.loop.invariant.gives w.in-NotNow.ensures.writes)
  ];
  taken = elim c.match-write_some.branch [
    | in-Count w ↦ let e = ap g.G.Gate.turns w.gate-is in let t = c.loop.invariant.taken in omega (arith, e, t)
    | in-NotNow w ↦ let e = ap g.G.Gate.turns w.gate-is in let n = w.turn_of_client.ensures in let t = c.loop.invariant.taken in omega (arith, e, n, t)
  ];
  paced = elim c.match-write_some.branch [
    | in-Count w ↦ let e = ap g.G.Gate.turns w.gate-is in let k = w.in-Count.ensures.writes.write_waits in let p = c.loop.invariant.paced in omega (arith, e, k, p)
    | in-NotNow w ↦ let e = ap g.G.Gate.turns w.gate-is in let n = w.turn_of_client.ensures in let k = w.in-NotNow.ensures.writes.write_waits in let p = c.loop.invariant.paced in omega (arith, e, n, k, p)
  ];
}

pub returns-then-sent-bytes-clause-given : goal.returns-then-sent-bytes-clause-given
returns-then-sent-bytes-clause-given g c = gave_all _ _ c.args.bytes.now c.loop.sent c.loop.counter c.loop.invariant.gives c.if-sent-bytes.true

pub returns-in-Ended-clause-given : goal.returns-in-Ended-clause-given
returns-in-Ended-clause-given g c = gave_part _ (g.C.ClientEnd.facts c.loop.client) _ c.args.bytes.now c.rest_of.result.now c.loop.sent c.loop.counter c.write_some.result c.loop.invariant.gives c.in-Ended.is c.write_some.ensures.writes
