use Rattle.std.proofs.Common.{ap, ◌∙◌}
use Rattle.book_rows.specs.Numbered.{client_in}
use Rattle.book_rows.proofs.Numbering.{found_other}
use Rattle.book_rows.proofs.tickets.longest_but_in.Goals as goal

pub returns : goal.returns
returns c = c.client_of.ensures ∙ (ap client_in c.other_slot_for.ensures ∙ found_other c.args.client c.args.pool.now c.args.slots.now.items)
