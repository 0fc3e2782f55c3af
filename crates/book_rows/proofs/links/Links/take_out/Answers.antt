use Rattle.std.proofs.Common.{◌≡◌, ◌≤◌, ℕ, None, List, ap, sym, subst, ◌∙◌}
use Rattle.std.specs.Prelude.{count_by, find}
use Rattle.session_values.specs.State.{StartKeyOf}
use Rattle.book_model.specs.Book.{Link, is_link}
use Rattle.book_rows.specs.PoolIndex.{ListsIfAny, TakesRow}
use Rattle.numbered_rows.specs.Indexes.{Follows}
use Rattle.book_rows.proofs.Pooling.{listed_less, listed_once, listed_still}
use Rattle.book_rows.proofs.links.Links.take_out.Goals as goal

abbrev own : Link → ℕ
own row = row.number

abbrev key : Link → StartKeyOf
key row = row.key

pub take-requires : goal.take-requires
take-requires c = let P : List Link → Type 0 = λ rows. (n : ℕ) → count_by (is_link n) rows ≤ 1 in record { once = subst P (sym c.self.view_is) c.requires.once }

pub invariant_of-self-in-None : goal.invariant_of-self-in-None
invariant_of-self-in-None c =
    let none : find (is_link c.args.number) c.self.inside.rows ≡ None = sym c.take.ensures.row ∙ c.in-None.is in
    subst (λ (rows : List Link). ListsIfAny own key c.self.inside.pools rows) (sym c.take.ensures.rest) (listed_still own key c.self.inside.pools c.self.inside.rows c.args.number none c.self.invariant)

pub unlist-requires : goal.unlist-requires
unlist-requires c =
    let P : List Link → Type 0 = λ rows. (n : ℕ) → count_by (is_link n) rows ≤ 1 in
    let once : P c.self.inside.rows = subst P (sym c.self.view_is) c.requires.once in
    record { once = listed_once own key c.self.inside.pools c.self.inside.rows c.args.number c.link.inside.key c.self.invariant (once c.args.number) }

pub invariant_of-self : goal.invariant_of-self
invariant_of-self c =
    let P : List Link → Type 0 = λ rows. (n : ℕ) → count_by (is_link n) rows ≤ 1 in
    let once : P c.self.inside.rows = subst P (sym c.self.view_is) c.requires.once in
    let there = sym c.take.ensures.row ∙ c.in-Some.is in
    let taken = subst (λ (k : StartKeyOf). Follows (TakesRow k c.args.number) c.self.inside.pools c.unlist.new.index) (ap key c.link.view_is) c.unlist.ensures.row in
    subst (λ (rows : List Link). ListsIfAny own key c.unlist.new.index rows) (sym c.take.ensures.rest) (listed_less own key c.self.inside.pools c.unlist.new.index c.self.inside.rows c.args.number _ taken there (once c.args.number) c.self.invariant)
