use Rattle.std.proofs.Common.{ℕ, ◌≤◌, sym, subst}
use Rattle.std.specs.Prelude.{count_by}
use Rattle.book_model.specs.Book.{Book, is_link}
use Rattle.book_register.proofs.Returns.{tick_done}
use Rattle.book_register.proofs.Takes.{one_idle}
use Rattle.book_register.proofs.book_state.BookState.ticks.Goals as goal

pub closes_first-requires : goal.closes_first-requires
closes_first-requires c = let P : Book → Type 0 = λ b. (n : ℕ) → count_by (is_link n) b.idle ≤ 1 in let once : (n : ℕ) → count_by (is_link n) c.args.self.now.idle ≤ 1 = one_idle _ _ _ c.requires.kept.links in record { once = subst P (sym c.self.view_is) once }

pub returns : goal.returns
returns c = tick_done _ c.args.self.now _ _ c.args.now _ c.self.view_is c.later-self-inside.ensures c.closes_first.ensures
