use Rattle.std.proofs.Common.{ap, ◌∙◌}
use Rattle.book_rows.specs.Waiting.{longest_waiting_but}
use Rattle.book_rows.proofs.Pooling.{longest_but}
use Rattle.book_rows.proofs.tickets.Tickets.longest_waiting_but.Goals as goal

pub returns-in-Some : goal.returns-in-Some
returns-in-Some c = c.first_but.ensures ∙ (longest_but c.self.inside.pools _ c.self.inside.rows c.args.client c.args.pool.now c.in-Some.is c.self.invariant ∙ ap (longest_waiting_but c.args.client c.args.pool.now) c.self.view_is)
