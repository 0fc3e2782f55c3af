use Rattle.pool_serve.proofs.Pumping.{Goes}
use Rattle.pool_serve.proofs.relaying.pumped.Given as goal

abbrev pub invariant-loop : goal.invariant-loop
invariant-loop g l = Goes l.initial.relay l.relay l.initial.next l.next
