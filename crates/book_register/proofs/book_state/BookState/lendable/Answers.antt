use Rattle.std.proofs.Common.{ℕ, ◌≤◌, sym, subst}
use Rattle.std.specs.Prelude.{count_by}
use Rattle.book_model.specs.Book.{Book, is_link}
use Rattle.book_register.proofs.book_state.BookState.lendable.Goals as goal

pub last_of_key-requires : goal.last_of_key-requires
last_of_key-requires c = let P : Book → Type 0 = λ b. (n : ℕ) → count_by (is_link n) b.idle ≤ 1 in record { once = subst P (sym c.self.view_is) c.requires.once }
