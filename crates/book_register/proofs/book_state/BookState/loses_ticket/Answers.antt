use Rattle.std.proofs.Common.{ℕ, ◌≤◌, sym, subst}
use Rattle.std.specs.Prelude.{count_by}
use Rattle.book_model.specs.Book.{Book, is_of}
use Rattle.book_register.proofs.book_state.BookState.loses_ticket.Goals as goal

pub take_out-requires : goal.take_out-requires
take_out-requires c = let P : Book → Type 0 = λ b. (n : ℕ) → count_by (is_of n) b.tickets ≤ 1 in record { once = subst P (sym c.self.view_is) c.requires.once }
