use Rattle.std.proofs.Common.{ℕ, ◌≤◌, sym, subst}
use Rattle.std.specs.Prelude.{count_by}
use Rattle.book_model.specs.Book.{Book, is_client}
use Rattle.book_register.proofs.book_state.BookState.asks.Goals as goal

pub put_in_state-requires : goal.put_in_state-requires
put_in_state-requires c = let P : Book → Type 0 = λ b. (n : ℕ) → count_by (is_client n) b.clients ≤ 1 in record { once = subst P (sym c.self.view_is) c.requires.kept.clients.once }
