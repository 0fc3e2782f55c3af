use Rattle.std.proofs.Common.{ap, ◌∙◌, List}
use Rattle.std.specs.Prelude.{find}
use Rattle.book_model.specs.Book.{Link, in_pool}
use Rattle.book_rows.specs.Numbered.{number_of}
use Rattle.book_rows.proofs.Pooling.{first_link}
use Rattle.book_rows.proofs.links.Links.first_of_pool.Goals as goal

pub returns-in-Some : goal.returns-in-Some
returns-in-Some c = c.first.ensures ∙ (first_link c.self.inside.pools _ c.self.inside.rows c.args.pool.now c.in-Some.is c.self.invariant ∙ ap (λ (links : List Link). number_of (find (in_pool c.args.pool.now) links)) c.self.view_is)
