use Rattle.std.proofs.Common.{◌≤◌, ℕ, List, ap, sym, subst, rules}
use Rattle.std.specs.Prelude.{count_by, find}
use Rattle.book_model.specs.Book.{Ticket, is_of}
use Rattle.numbered_rows.proofs.Numbering.{is_there}
use Rattle.book_rows.proofs.tickets.Tickets.has.Goals as goal

pub get-requires : goal.get-requires
get-requires c = let P : List Ticket → Type 0 = λ rows. (n : ℕ) → count_by (is_of n) rows ≤ 1 in record { once = subst P (sym c.self.view_is) c.requires.once }

pub returns : goal.returns
returns c =
    let at = is_there (is_of c.args.client) c.args.self.now in
    let same = ap (find (is_of c.args.client)) c.self.view_is in
    search (rules, at, same)
