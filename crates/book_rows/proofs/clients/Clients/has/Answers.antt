use Rattle.std.proofs.Common.{◌≤◌, ℕ, List, ap, sym, subst, rules}
use Rattle.std.specs.Prelude.{count_by, find}
use Rattle.book_model.specs.Book.{Client, is_client}
use Rattle.numbered_rows.proofs.Numbering.{is_there}
use Rattle.book_rows.proofs.clients.Clients.has.Goals as goal

pub get-requires : goal.get-requires
get-requires c = let P : List Client → Type 0 = λ rows. (n : ℕ) → count_by (is_client n) rows ≤ 1 in record { once = subst P (sym c.self.view_is) c.requires.once }

pub returns : goal.returns
returns c =
    let at = is_there (is_client c.args.number) c.args.self.now in
    let same = ap (find (is_client c.args.number)) c.self.view_is in
    search (rules, at, same)
