use Rattle.std.proofs.Common.{◌≤◌, ℕ, List, sym, subst}
use Rattle.std.specs.Prelude.{count_by}
use Rattle.book_model.specs.Book.{Link, is_link}
use Rattle.book_rows.proofs.links.Links.get.Goals as goal

pub get-requires : goal.get-requires
get-requires c = let P : List Link → Type 0 = λ rows. (n : ℕ) → count_by (is_link n) rows ≤ 1 in record { once = subst P (sym c.self.view_is) c.requires.once }
