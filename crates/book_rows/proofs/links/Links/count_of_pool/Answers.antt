use Rattle.std.proofs.Common.{ap, ◌∙◌, arith}
use Rattle.std.specs.Prelude.{count_by}
use Rattle.book_model.specs.Book.{in_pool}
use Rattle.numbered_rows.specs.Numbered.{rows_in}
use Rattle.numbered_rows.proofs.Numbering.{count_most, fewer_rows}
use Rattle.book_rows.proofs.Pooling.{links_counted}
use Rattle.book_rows.proofs.links.Links.count_of_pool.Goals as goal

pub returns-in-Some-clause-count : goal.returns-in-Some-clause-count
returns-in-Some-clause-count c = c.count.ensures.count ∙ (links_counted c.self.inside.pools _ c.self.inside.rows c.args.pool.now c.in-Some.is c.self.invariant ∙ ap (count_by (in_pool c.args.pool.now)) c.self.view_is)

pub returns-in-None-clause-fits : goal.returns-in-None-clause-fits
returns-in-None-clause-fits c = omega (arith, c.count_in.ensures, count_most (in_pool c.args.pool.now) (rows_in c.slots.result.now.items), fewer_rows c.slots.result.now.items, c.slots.ensures.fits)
