use Rattle.std.proofs.Common.{ap, ◌∙◌}
use Rattle.std.specs.Prelude.{count_by}
use Rattle.book_model.specs.Book.{same_pool}
use Rattle.book_rows.proofs.Pooling.{waiting}
use Rattle.book_rows.proofs.tickets.Tickets.waiting.Goals as goal

pub returns-in-Some : goal.returns-in-Some
returns-in-Some c = c.count.ensures.count ∙ (waiting c.self.inside.pools _ c.self.inside.rows c.args.pool.now c.in-Some.is c.self.invariant ∙ ap (count_by (λ t. same_pool t.key c.args.pool.now)) c.self.view_is)
