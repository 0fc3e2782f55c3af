use Rattle.std.proofs.Common.{ℕ, ◌≤◌, sym, subst}
use Rattle.std.specs.Prelude.{count_by}
use Rattle.book_model.specs.Book.{Book, is_client, is_link, is_of}
use Rattle.book_register.proofs.Takes.{one_lent, one_ticket}
use Rattle.book_register.proofs.book_state.BookState.is_strange.Goals as goal

pub has-requires : goal.has-requires
has-requires c = let P : Book → Type 0 = λ b. (n : ℕ) → count_by (is_client n) b.clients ≤ 1 in record { once = subst P (sym c.self.view_is) c.requires.kept.clients.once }

pub has-requires-else-not-has : goal.has-requires-else-not-has
has-requires-else-not-has c = let P : Book → Type 0 = λ b. (n : ℕ) → count_by (is_of n) b.tickets ≤ 1 in record { once = subst P (sym c.self.view_is) (one_ticket _ _ _ c.requires.kept.clients) }

pub has-requires-in-Take : goal.has-requires-in-Take
has-requires-in-Take c = let P : Book → Type 0 = λ b. (n : ℕ) → count_by (is_of n) b.tickets ≤ 1 in record { once = subst P (sym c.self.view_is) (one_ticket _ _ _ c.requires.kept.clients) }

pub has-requires-in-Leave : goal.has-requires-in-Leave
has-requires-in-Leave c = let P : Book → Type 0 = λ b. (n : ℕ) → count_by (is_client n) b.clients ≤ 1 in record { once = subst P (sym c.self.view_is) c.requires.kept.clients.once }

pub has-requires-in-Lost : goal.has-requires-in-Lost
has-requires-in-Lost c = let P : Book → Type 0 = λ b. (n : ℕ) → count_by (is_link n) b.lent ≤ 1 in record { once = subst P (sym c.self.view_is) (one_lent _ _ _ c.requires.kept.links) }

pub has-requires-in-StartFailed : goal.has-requires-in-StartFailed
has-requires-in-StartFailed c = let P : Book → Type 0 = λ b. (n : ℕ) → count_by (is_link n) b.lent ≤ 1 in record { once = subst P (sym c.self.view_is) (one_lent _ _ _ c.requires.kept.links) }

pub has-requires-in-Keyed : goal.has-requires-in-Keyed
has-requires-in-Keyed c = let P : Book → Type 0 = λ b. (n : ℕ) → count_by (is_link n) b.lent ≤ 1 in record { once = subst P (sym c.self.view_is) (one_lent _ _ _ c.requires.kept.links) }

pub has-requires-in-EndLease : goal.has-requires-in-EndLease
has-requires-in-EndLease c = let P : Book → Type 0 = λ b. (n : ℕ) → count_by (is_link n) b.lent ≤ 1 in record { once = subst P (sym c.self.view_is) (one_lent _ _ _ c.requires.kept.links) }
