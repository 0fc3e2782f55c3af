use Rattle.std.proofs.Common.{◌≡◌}
use Rattle.pool_serve.proofs.worker.Worker.take_in_turn.Given as goal

abbrev pub invariant-loop : goal.invariant-loop
invariant-loop g l = (g.D.LinkDesk.counted l.self.pass ≡ g.D.LinkDesk.counted l.initial.self.pass) × (g.D.LinkDesk.holder l.self.pass ≡ g.D.LinkDesk.holder l.initial.self.pass)
