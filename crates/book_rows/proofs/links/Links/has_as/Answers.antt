use Rattle.std.proofs.Common.{◌≡◌, ◌≤◌, ℕ, List, Some, ap, ◌∙◌, sym, subst}
use Rattle.std.specs.Prelude.{count_by, find, option_copied}
use Rattle.book_model.specs.Book.{Link, is_link}
use Rattle.book_model.specs.Outcomes.{is_started_as}
use Rattle.book_rows.proofs.links.Links.has_as.Goals as goal

pub get-requires : goal.get-requires
get-requires c = let P : List Link → Type 0 = λ rows. (n : ℕ) → count_by (is_link n) rows ≤ 1 in record { once = subst P (sym c.self.view_is) c.requires.once }

pub returns-in-Some : goal.returns-in-Some
returns-in-Some c =
    let there : Some c.in-Some.link.now ≡ find (is_link c.args.number) c.args.self.now = ap option_copied (sym c.in-Some.is) ∙ (c.get.ensures ∙ ap (find (is_link c.args.number)) c.self.view_is) in
    c.was_started_as.ensures ∙ ap (is_started_as c.args.key.now c.args.started_at) there
