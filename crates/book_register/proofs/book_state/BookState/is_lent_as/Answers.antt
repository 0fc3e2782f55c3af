use Rattle.std.proofs.Common.{ℕ, ◌≤◌, sym, subst}
use Rattle.std.specs.Prelude.{count_by}
use Rattle.book_model.specs.Book.{Book, is_link}
use Rattle.book_register.proofs.Takes.{one_lent}
use Rattle.book_register.proofs.book_state.BookState.is_lent_as.Goals as goal

pub has_as-requires : goal.has_as-requires
has_as-requires c = let P : Book → Type 0 = λ b. (n : ℕ) → count_by (is_link n) b.lent ≤ 1 in record { once = subst P (sym c.self.view_is) (one_lent _ _ _ c.requires.kept.links) }
