use Rattle.std.proofs.Common.{◌≡◌, ℕ, Some, List, rules, sym, subst, ◌∙◌, ap}
use Rattle.std.specs.Prelude.{position, remove}
use Rattle.message_view.specs.declared.views.KeyView.{KeyView}
use Rattle.book_model.specs.Book.{Lease, is_of_link}
use Rattle.book_rows.specs.Index.{Tells, place_of, with_one_less}
use Rattle.book_rows.proofs.Indexing.{one_less_told}
use Rattle.numbered_rows.proofs.Places.{found_within, removed_none, removed_one}
use Rattle.book_rows.proofs.leases.Leases.remove.Goals as goal

pub invariant_of-self : goal.invariant_of-self
invariant_of-self c =
    let it : Lease = c.remove-lease.result in
    let rows : List Lease = c.self.inside.rows.items in
    let at : position (is_of_link c.args.link) rows ≡ Some c.in-Some.place = ap (λ (xs : List Lease). position (is_of_link c.args.link) xs) c.self.view_is ∙ (sym c.place_of.ensures ∙ c.in-Some.is) in
    let told : Tells (with_one_less (place_of it.client) c.self.inside.index) (remove rows c.in-Some.place) = one_less_told c.self.inside.index rows c.in-Some.place it c.self.invariant.1 (found_within (is_of_link c.args.link) rows c.in-Some.place at) c.remove-lease.ensures.value in
    let word : c.lease.inside.client ≡ it.client = ap (λ (l : Lease). l.client) c.lease.view_is in
    let index : with_one_less (place_of it.client) c.self.inside.index ≡ c.lower.new.self = ap (λ (w : KeyView). with_one_less (place_of w) c.self.inside.index) (sym word) ∙ sym c.lower.ensures in
    (search rules, subst (λ (left : List Lease). Tells c.lower.new.self left) (sym c.remove-lease.ensures.items) (subst (λ (counts : List ℕ). Tells counts (remove rows c.in-Some.place)) index told))

pub returns-in-Some : goal.returns-in-Some
returns-in-Some c =
    let at : position (is_of_link c.args.link) c.args.self.now ≡ Some c.in-Some.place = sym c.place_of.ensures ∙ c.in-Some.is in
    let gone : c.remove-lease.new.self.items ≡ remove c.self.inside.rows.items c.in-Some.place = c.remove-lease.ensures.items in
    gone ∙ (ap (λ (xs : List Lease). remove xs c.in-Some.place) c.self.view_is ∙ removed_one (is_of_link c.args.link) c.args.self.now c.in-Some.place at (c.requires.once c.args.link))

pub returns-in_default : goal.returns-in_default
returns-in_default c = removed_none (is_of_link c.args.link) c.args.self.now (sym c.place_of.ensures ∙ search rules)
