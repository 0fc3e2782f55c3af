use Rattle.std.proofs.Common.{rules, ◌≡◌, ℕ, ◌≤◌, List, Some, sym, subst}
use Rattle.std.specs.Prelude.{count_by, position}
use Rattle.link_run.specs.Links.{LinkView}
use Rattle.lease_book.specs.Links.{is_numbered}
use Rattle.lease_book.proofs.Links.{left_at}
use Rattle.lease_book.proofs.idle.IdleLinks.take.Goals as goal

pub returns-clause-left : goal.returns-clause-left
returns-clause-left g c =
    let i = c.self.inside.links.items in
    let n = c.in_ok-number.field-0 in
    let at : position (is_numbered n) i ≡ Some c.in_ok-place.place = search rules in
    let named : c.args.number ≡ Some n = search rules in
    rw (named, ← c.self.view_is) (left_at i c.remove.new.self.items n c.in_ok-place.place c.remove.result at c.remove.ensures.items (subst (λ (x : List LinkView). (m : ℕ) → count_by (is_numbered m) x ≤ 1) (sym c.self.view_is) c.requires.once))
