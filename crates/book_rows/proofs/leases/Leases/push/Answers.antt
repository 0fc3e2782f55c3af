use Rattle.std.proofs.Common.{◌≡◌, ◌++◌, ◌∷◌, [], ℕ, List, ap, subst, sym, ◌∙◌, rules}
use Rattle.message_view.specs.declared.views.KeyView.{KeyView}
use Rattle.book_model.specs.Book.{Lease}
use Rattle.book_rows.specs.Index.{Tells, place_of, with_one_more}
use Rattle.book_rows.proofs.Indexing.{one_more_told}
use Rattle.book_rows.proofs.leases.Leases.push.Goals as goal

pub invariant_of-self : goal.invariant_of-self
invariant_of-self c =
    let told : Tells (with_one_more (place_of c.args.lease.client) c.self.inside.index) (c.self.inside.rows.items ++ c.args.lease ∷ []) = one_more_told c.args.lease c.self.inside.index c.self.inside.rows.items c.self.invariant.1 in
    let word : c.lease.inside.client ≡ c.args.lease.client = ap (λ (l : Lease). l.client) c.lease.view_is in
    let index : with_one_more (place_of c.args.lease.client) c.self.inside.index ≡ c.raise.new.self = ap (λ (w : KeyView). with_one_more (place_of w) c.self.inside.index) (sym word) ∙ sym c.raise.ensures in
    (search rules, subst (λ (rows : List Lease). Tells c.raise.new.self rows) (sym c.push_reserved.ensures.items) (subst (λ (counts : List ℕ). Tells counts (c.self.inside.rows.items ++ c.args.lease ∷ [])) index told))
