use Rattle.std.proofs.Common.{ap, ◌∙◌}
use Rattle.book_rows.specs.Waiting.{longest_waiting}
use Rattle.book_rows.proofs.Pooling.{longest}
use Rattle.book_rows.proofs.tickets.Tickets.longest_waiting.Goals as goal

pub returns-in-Some : goal.returns-in-Some
returns-in-Some c = c.first.ensures ∙ (longest c.self.inside.pools _ c.self.inside.rows c.args.pool.now c.in-Some.is c.self.invariant ∙ ap (longest_waiting c.args.pool.now) c.self.view_is)
