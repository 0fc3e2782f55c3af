use Rattle.std.proofs.Common.{ℕ, ◌≤◌, ◌<◌, length, sym, subst}
use Rattle.std.specs.Prelude.{count_by}
use Rattle.book_model.specs.Book.{Book, is_number, is_of_link, without_number}
use Rattle.book_model.specs.declared.limits.TheConstants.{MAX_LINKS}
use Rattle.book_register.proofs.Striking.{ends_fit, one_end, one_lease}
use Rattle.book_register.proofs.book_state.BookState.ends_lease.Goals as goal

pub remove-requires : goal.remove-requires
remove-requires c = let P : Book → Type 0 = λ b. (n : ℕ) → count_by (is_of_link n) b.keyed ≤ 1 in record { once = subst P (sym c.self.view_is) (one_lease c.args.self.now c.requires.kept) }

pub note-requires-clause-once : goal.note-requires-clause-once
note-requires-clause-once c = let P : Book → Type 0 = λ b. (n : ℕ) → count_by (is_number n) b.ended ≤ 1 in subst P (sym c.self.view_is) (one_end c.args.self.now c.requires.kept)

pub note-requires-clause-room : goal.note-requires-clause-room
note-requires-clause-room c = let P : Book → Type 0 = λ b. length (without_number c.args.link b.ended) < MAX_LINKS in subst P (sym c.self.view_is) (ends_fit c.args.self.now c.args.link c.requires.kept c.requires.lent)
