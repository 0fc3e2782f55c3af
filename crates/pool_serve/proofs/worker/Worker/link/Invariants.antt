use Rattle.std.proofs.Common.{◌≡◌, None}
use Rattle.pool_serve.specs.Again.{HasAskedAgain}
use Rattle.pool_serve.proofs.worker.Worker.link.Given as goal

abbrev pub invariant-loop : goal.invariant-loop
invariant-loop g l = HasAskedAgain g.D.LinkDesk.home l.logged_in (g.D.LinkDesk.counted l.initial.self.pass) (g.D.LinkDesk.counted l.self.pass)
    × ((g.D.LinkDesk.holder l.self.pass).client ≡ (g.D.LinkDesk.holder l.initial.self.pass).client) × ((g.D.LinkDesk.holder l.self.pass).lease ≡ None) × ((g.D.LinkDesk.holder l.self.pass).refused ≡ None)
    × ((g.D.LinkDesk.holder l.self.pass).found ≡ (g.D.LinkDesk.holder l.initial.self.pass).found) × ((g.D.LinkDesk.holder l.self.pass).struck ≡ (g.D.LinkDesk.holder l.initial.self.pass).struck)
