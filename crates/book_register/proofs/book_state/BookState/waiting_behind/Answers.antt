use Rattle.std.proofs.Common.{ℕ, ◌≤◌, sym, subst}
use Rattle.std.specs.Prelude.{count_by}
use Rattle.book_model.specs.Book.{Book, is_of}
use Rattle.book_register.proofs.Takes.{one_ticket}
use Rattle.book_register.proofs.book_state.BookState.waiting_behind.Goals as goal

pub get-requires : goal.get-requires
get-requires c = let P : Book → Type 0 = λ b. (n : ℕ) → count_by (is_of n) b.tickets ≤ 1 in record { once = subst P (sym c.self.view_is) (one_ticket _ _ _ c.requires.kept.clients) }
