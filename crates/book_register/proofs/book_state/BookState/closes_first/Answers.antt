use Rattle.std.proofs.Common.{ℕ, ◌≤◌, sym, subst, ◌∙◌}
use Rattle.std.specs.Prelude.{count_by}
use Rattle.book_model.specs.Book.{Book, is_link}
use Rattle.book_register.proofs.Returns.{none_stale, stale_gone}
use Rattle.book_register.proofs.book_state.BookState.closes_first.Goals as goal

pub take_out-requires : goal.take_out-requires
take_out-requires c = let P : Book → Type 0 = λ b. (n : ℕ) → count_by (is_link n) b.idle ≤ 1 in record { once = subst P (sym c.self.view_is) c.requires.once }

pub returns-in-Some : goal.returns-in-Some
returns-in-Some c = stale_gone _ c.args.self.now c.in-Some.number _ c.self.view_is (sym c.in-Some.is ∙ c.first_stale.ensures) c.take_out.ensures.rest

pub returns-in-None : goal.returns-in-None
returns-in-None c = none_stale c.args.self.now (sym c.in-None.is ∙ c.first_stale.ensures)
