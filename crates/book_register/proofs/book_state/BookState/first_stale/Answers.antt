use Rattle.std.proofs.Common.{ap, ◌∙◌, List}
use Rattle.std.specs.Prelude.{find}
use Rattle.book_model.specs.Book.{Book, Link}
use Rattle.book_model.specs.Outcomes.{is_stale}
use Rattle.book_rows.specs.Numbered.{number_in, number_of}
use Rattle.book_rows.proofs.Numbering.{found_number}
use Rattle.book_register.proofs.book_state.BookState.first_stale.Goals as goal

pub returns : goal.returns
returns c = c.number_in.ensures ∙ (ap number_in c.stale_slot.ensures ∙ (found_number (is_stale c.args.self.now) c.slots.result.now.items ∙ ap (λ (links : List Link). number_of (find (is_stale c.args.self.now) links)) (c.slots.ensures ∙ ap (λ (b : Book). b.idle) c.self.view_is)))
