use Rattle.std.proofs.Common.{ℕ, ◌≤◌, ap, sym, ◌∙◌, subst}
use Rattle.std.specs.Prelude.{count_by, option_copied}
use Rattle.book_model.specs.Book.{Book, is_link, is_number, is_of_link}
use Rattle.book_register.proofs.Returns.{closing_done, keeping_done}
use Rattle.book_register.proofs.Striking.{one_end, one_lease, one_mark}
use Rattle.book_register.proofs.Takes.{one_lent}
use Rattle.book_register.proofs.book_state.BookState.gives_back.Goals as goal

pub get-requires : goal.get-requires
get-requires c = let P : Book → Type 0 = λ b. (n : ℕ) → count_by (is_link n) b.lent ≤ 1 in record { once = subst P (sym c.self.view_is) (one_lent _ _ _ c.requires.kept.links) }

pub take_out-link-requires : goal.take_out-link-requires
take_out-link-requires c = let P : Book → Type 0 = λ b. (n : ℕ) → count_by (is_link n) b.lent ≤ 1 in record { once = subst P (sym c.self.view_is) (one_lent _ _ _ c.requires.kept.links) }

pub forgets-requires-clause-keyed : goal.forgets-requires-clause-keyed
forgets-requires-clause-keyed c = let P : Book → Type 0 = λ b. (n : ℕ) → count_by (is_of_link n) b.keyed ≤ 1 in subst P (sym c.self.view_is) (one_lease c.args.self.now c.requires.kept)

pub forgets-requires-clause-marked : goal.forgets-requires-clause-marked
forgets-requires-clause-marked c = let P : Book → Type 0 = λ b. (n : ℕ) → count_by (is_number n) b.marked ≤ 1 in subst P (sym c.self.view_is) (one_mark c.args.self.now c.requires.kept)

pub forgets-requires-clause-ended : goal.forgets-requires-clause-ended
forgets-requires-clause-ended c = let P : Book → Type 0 = λ b. (n : ℕ) → count_by (is_number n) b.ended ≤ 1 in subst P (sym c.self.view_is) (one_end c.args.self.now c.requires.kept)

pub returns-then-closes : goal.returns-then-closes
returns-then-closes c = closing_done _ c.args.self.now _ c.args.number c.in-Some.link.now _ c.self.view_is (sym c.get.ensures ∙ ap option_copied c.in-Some.is) (sym c.closes-closes.ensures ∙ c.if-closes.true) c.take_out-link.ensures.rest c.forgets.ensures

pub returns-in-Some-link : goal.returns-in-Some-link
returns-in-Some-link c = keeping_done _ c.args.self.now _ _ c.args.number c.in-Some.link.now c.in-Some-link.link _ _ c.self.view_is (sym c.get.ensures ∙ ap option_copied c.in-Some.is) (sym c.take_out-link.ensures.link ∙ c.in-Some-link.is) (sym c.closes-closes.ensures ∙ c.if-closes.false) c.take_out-link.ensures.rest c.forgets.ensures c.keeps.ensures.book c.keeps.ensures.reply
