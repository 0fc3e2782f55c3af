use Rattle.std.proofs.Common.{◌≡◌, ◌+◌, ◌≤◌}
use Rattle.pool_serve.proofs.Giving.{Gives}
use Rattle.pool_serve.proofs.final_message.give.Given as goal

abbrev pub invariant-loop : goal.invariant-loop
invariant-loop g l = record {
  gives : Gives (g.C.ClientEnd.facts l.initial.client) (g.C.ClientEnd.facts l.client) l.bytes l.sent l.counter;
  taken : g.G.Gate.turns l.gate ≤ g.G.Gate.turns l.initial.gate + l.counter;
  paced : (g.C.ClientEnd.facts l.client).write_waits + g.G.Gate.turns l.initial.gate ≡ (g.C.ClientEnd.facts l.initial.client).write_waits + g.G.Gate.turns l.gate;
}
