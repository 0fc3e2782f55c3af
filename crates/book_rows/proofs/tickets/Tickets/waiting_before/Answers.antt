use Rattle.std.proofs.Common.{◌≤◌, ℕ, List, ap, sym, subst, ◌∙◌}
use Rattle.std.specs.Prelude.{count_by}
use Rattle.book_model.specs.Book.{Ticket, is_of, waiting_before}
use Rattle.book_rows.proofs.Pooling.{stands_behind}
use Rattle.book_rows.proofs.tickets.Tickets.waiting_before.Goals as goal

pub returns-in-Some-place_of : goal.returns-in-Some-place_of
returns-in-Some-place_of c =
    let P : List Ticket → Type 0 = λ rows. (n : ℕ) → count_by (is_of n) rows ≤ 1 in
    let once : P c.self.inside.rows = subst P (sym c.self.view_is) c.requires.once in
    stands_behind c.self.inside.pools _ c.self.inside.rows c.args.client _ c.args.pool.now c.in-Some.is c.self.invariant once (sym c.place_of.ensures ∙ c.in-Some-place_of.is) ∙ ap (waiting_before c.args.pool.now c.args.client) c.self.view_is
