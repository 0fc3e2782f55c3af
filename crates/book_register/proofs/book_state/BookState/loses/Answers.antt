use Rattle.std.proofs.Common.{ℕ, ◌≤◌, sym, subst}
use Rattle.std.specs.Prelude.{count_by}
use Rattle.book_model.specs.Book.{Book, is_link}
use Rattle.book_register.proofs.Striking.{one_end, one_lease, one_mark}
use Rattle.book_register.proofs.Takes.{one_lent}
use Rattle.book_register.proofs.book_state.BookState.loses.Goals as goal

pub forgets-requires-clause-keyed : goal.forgets-requires-clause-keyed
forgets-requires-clause-keyed c = one_lease c.args.self.now c.requires.kept

pub forgets-requires-clause-marked : goal.forgets-requires-clause-marked
forgets-requires-clause-marked c = one_mark c.args.self.now c.requires.kept

pub forgets-requires-clause-ended : goal.forgets-requires-clause-ended
forgets-requires-clause-ended c = one_end c.args.self.now c.requires.kept

pub take_out-requires : goal.take_out-requires
take_out-requires c =
    let P : Book → Type 0 = λ b. (n : ℕ) → count_by (is_link n) b.lent ≤ 1 in
    let once : P c.args.self.now = one_lent _ _ _ c.requires.kept.links in
    record { once = subst P (sym c.self.view_is) (subst P (sym c.forgets.ensures) once) }
