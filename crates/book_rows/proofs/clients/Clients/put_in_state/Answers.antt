use Rattle.std.proofs.Common.{◌≤◌, ℕ, List, sym, subst}
use Rattle.std.specs.Prelude.{count_by}
use Rattle.book_model.specs.Book.{Client, is_client}
use Rattle.book_rows.proofs.clients.Clients.put_in_state.Goals as goal

pub replace-requires : goal.replace-requires
replace-requires c = let P : List Client → Type 0 = λ rows. (n : ℕ) → count_by (is_client n) rows ≤ 1 in record { once = subst P (sym c.self.view_is) c.requires.once }
