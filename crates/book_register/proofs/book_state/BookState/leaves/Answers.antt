use Rattle.std.proofs.Common.{ℕ, ◌≤◌, sym, subst}
use Rattle.std.specs.Prelude.{count_by}
use Rattle.book_model.specs.Book.{Book, is_client, is_of}
use Rattle.book_register.proofs.Takes.{one_ticket}
use Rattle.book_register.proofs.book_state.BookState.leaves.Goals as goal

pub remove-requires : goal.remove-requires
remove-requires c = let P : Book → Type 0 = λ b. (n : ℕ) → count_by (is_client n) b.clients ≤ 1 in record { once = subst P (sym c.self.view_is) c.requires.kept.clients.once }

pub take_out-requires : goal.take_out-requires
take_out-requires c = let P : Book → Type 0 = λ b. (n : ℕ) → count_by (is_of n) b.tickets ≤ 1 in record { once = subst P (sym c.self.view_is) (one_ticket _ _ _ c.requires.kept.clients) }
