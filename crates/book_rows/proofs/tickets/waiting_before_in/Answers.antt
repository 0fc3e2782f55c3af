use Rattle.std.proofs.Common.{◌∙◌, sym}
use Rattle.book_rows.proofs.Numbering.{waits_there}
use Rattle.book_rows.proofs.tickets.waiting_before_in.Goals as goal

pub unreachable-requires : goal.unreachable-requires
unreachable-requires c = waits_there c.args.client c.args.slots.now.items c.requires (sym c.place_in.ensures ∙ c.in_default.is)
