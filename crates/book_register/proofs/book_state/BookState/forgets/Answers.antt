use Rattle.std.proofs.Common.{ℕ, ◌≤◌, sym, subst}
use Rattle.std.specs.Prelude.{count_by}
use Rattle.book_model.specs.Book.{Book, is_number, is_of_link}
use Rattle.book_register.proofs.book_state.BookState.forgets.Goals as goal

pub remove-requires : goal.remove-requires
remove-requires c = let P : Book → Type 0 = λ b. (n : ℕ) → count_by (is_of_link n) b.keyed ≤ 1 in record { once = subst P (sym c.self.view_is) c.requires.keyed }

pub remove-requires-2 : goal.remove-requires-2
remove-requires-2 c = let P : Book → Type 0 = λ b. (n : ℕ) → count_by (is_number n) b.marked ≤ 1 in record { once = subst P (sym c.self.view_is) c.requires.marked }

pub remove-requires-3 : goal.remove-requires-3
remove-requires-3 c = let P : Book → Type 0 = λ b. (n : ℕ) → count_by (is_number n) b.ended ≤ 1 in record { once = subst P (sym c.self.view_is) c.requires.ended }
