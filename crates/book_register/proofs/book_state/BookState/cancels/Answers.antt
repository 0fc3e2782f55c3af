use Rattle.std.proofs.Common.{ℕ, ◌≤◌, ◌<◌, length, find, sym, ◌∙◌, subst}
use Rattle.std.specs.Prelude.{count_by}
use Rattle.book_model.specs.Book.{Book, is_number, is_of_client, without_number}
use Rattle.book_model.specs.declared.limits.TheConstants.{MAX_LINKS}
use Rattle.book_register.proofs.Striking.{marks_fit, one_mark, struck}
use Rattle.book_register.proofs.book_state.BookState.cancels.Goals as goal

pub note-requires-clause-once : goal.note-requires-clause-once
note-requires-clause-once c = let P : Book → Type 0 = λ b. (n : ℕ) → count_by (is_number n) b.marked ≤ 1 in subst P (sym c.self.view_is) (one_mark c.args.self.now c.requires.kept)

pub note-requires-clause-room : goal.note-requires-clause-room
note-requires-clause-room c =
    let P : Book → Type 0 = λ b. length (without_number c.in-Strike.link b.marked) < MAX_LINKS in
    let there = (struck c.args.self.now (find (is_of_client c.args.client) c.args.self.now.keyed) c.in-Strike.link c.in-Strike.server (sym c.in-Strike.is ∙ c.strike-reply.ensures)).1 in
    subst P (sym c.self.view_is) (marks_fit c.args.self.now c.in-Strike.link c.requires.kept there)
