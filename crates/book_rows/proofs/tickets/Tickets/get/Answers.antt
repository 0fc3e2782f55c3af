use Rattle.std.proofs.Common.{◌≤◌, ℕ, List, sym, subst}
use Rattle.std.specs.Prelude.{count_by}
use Rattle.book_model.specs.Book.{Ticket, is_of}
use Rattle.book_rows.proofs.tickets.Tickets.get.Goals as goal

pub get-requires : goal.get-requires
get-requires c = let P : List Ticket → Type 0 = λ rows. (n : ℕ) → count_by (is_of n) rows ≤ 1 in record { once = subst P (sym c.self.view_is) c.requires.once }
