use Rattle.std.proofs.Common.{ap, ◌∙◌}
use Rattle.book_model.specs.Book.{in_pool}
use Rattle.book_rows.specs.Numbered.{number_in}
use Rattle.book_rows.proofs.Numbering.{found_number}
use Rattle.book_rows.proofs.links.first_in.Goals as goal

pub returns : goal.returns
returns c = c.number_in.ensures ∙ (ap number_in c.slot_in.ensures ∙ found_number (in_pool c.args.pool.now) c.args.slots.now.items)
