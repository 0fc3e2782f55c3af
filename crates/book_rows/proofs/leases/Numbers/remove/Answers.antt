use Rattle.std.proofs.Common.{◌≡◌, ℕ, Some, List, rules, sym, ◌∙◌, ap}
use Rattle.std.specs.Prelude.{position, remove}
use Rattle.book_model.specs.Book.{is_number}
use Rattle.numbered_rows.proofs.Places.{removed_none, removed_one}
use Rattle.book_rows.proofs.leases.Numbers.remove.Goals as goal

pub returns-in-Some : goal.returns-in-Some
returns-in-Some c =
    let at : position (is_number c.args.number) c.args.self.now ≡ Some c.in-Some.place = sym c.place_of.ensures ∙ c.in-Some.is in
    let gone : c.remove-number.new.self.items ≡ remove c.self.inside.rows.items c.in-Some.place = c.remove-number.ensures.items in
    gone ∙ (ap (λ (xs : List ℕ). remove xs c.in-Some.place) c.self.view_is ∙ removed_one (is_number c.args.number) c.args.self.now c.in-Some.place at (c.requires.once c.args.number))

pub returns-in_default : goal.returns-in_default
returns-in_default c = removed_none (is_number c.args.number) c.args.self.now (sym c.place_of.ensures ∙ search rules)
