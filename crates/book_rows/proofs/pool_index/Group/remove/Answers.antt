use Rattle.std.proofs.Common.{◌≡◌, Some, rules, sym, ◌∙◌, ap}
use Rattle.std.specs.Prelude.{position, remove}
use Rattle.book_model.specs.Book.{is_number, without_number}
use Rattle.book_rows.specs.PoolIndex.{Group}
use Rattle.numbered_rows.proofs.Places.{removed_none, removed_one}
use Rattle.book_rows.proofs.pool_index.Group.remove.Goals as goal

pub returns-in-Some : goal.returns-in-Some
returns-in-Some c =
    let at : position (is_number c.args.number) c.args.self.now.numbers ≡ Some c.in-Some.place = sym c.place_of.ensures ∙ c.in-Some.is in
    let gone : c.remove.new.self.items ≡ remove c.self.inside.numbers.items c.in-Some.place = search rules in
    let rest : c.remove.new.self.items ≡ without_number c.args.number c.args.self.now.numbers = gone ∙ (ap (λ (g : Group). remove g.numbers c.in-Some.place) c.self.view_is ∙ removed_one (is_number c.args.number) c.args.self.now.numbers c.in-Some.place at c.requires.once) in
    search (rules, rest)

pub returns-in_default : goal.returns-in_default
returns-in_default c =
    let rest = removed_none (is_number c.args.number) c.args.self.now.numbers (sym c.place_of.ensures ∙ search rules) in
    search (rules, rest)
