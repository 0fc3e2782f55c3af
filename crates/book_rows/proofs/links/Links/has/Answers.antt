use Rattle.std.proofs.Common.{◌≤◌, ℕ, List, ap, sym, subst, rules}
use Rattle.std.specs.Prelude.{count_by, find}
use Rattle.book_model.specs.Book.{Link, is_link}
use Rattle.numbered_rows.proofs.Numbering.{is_there}
use Rattle.book_rows.proofs.links.Links.has.Goals as goal

pub get-requires : goal.get-requires
get-requires c = let P : List Link → Type 0 = λ rows. (n : ℕ) → count_by (is_link n) rows ≤ 1 in record { once = subst P (sym c.self.view_is) c.requires.once }

pub returns : goal.returns
returns c =
    let at = is_there (is_link c.args.number) c.args.self.now in
    let same = ap (find (is_link c.args.number)) c.self.view_is in
    search (rules, at, same)
