use Rattle.std.proofs.Common.{ap, ◌∙◌}
use Rattle.book_rows.specs.Numbered.{client_in}
use Rattle.book_rows.proofs.Numbering.{found_client}
use Rattle.book_rows.proofs.tickets.longest_in.Goals as goal

pub returns : goal.returns
returns c = c.client_of.ensures ∙ (ap client_in c.slot_for.ensures ∙ found_client c.args.pool.now c.args.slots.now.items)
