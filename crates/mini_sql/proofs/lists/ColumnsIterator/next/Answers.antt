use Rattle.std.proofs.Common.{sym, ap, ◌∙◌}
use Rattle.std.specs.Prelude.{is_some}
use Rattle.mini_sql.specs.Words.{folded}
use Rattle.mini_sql.specs.Statements.{columns_at, phrase}
use Rattle.mini_sql.specs.Lists.{items_of, columns_from}
use Rattle.mini_sql.specs.Meanings.{columns_left}
use Rattle.mini_sql.proofs.Reading.{next-some, next-items, goes-first}
use Rattle.mini_sql.proofs.lists.ColumnsIterator.next.Goals as goal

pub invariant_of-self : goal.invariant_of-self
invariant_of-self c =
    let typed = c.args.self.now.typed in
    let whole = ap is_some (ap (columns_from typed) (sym c.in_ok-text.was)) ∙ c.args.self.now.listed in
    record { listed = next-some (columns_at typed) (folded c.in-Ok.name.now) c.next_item-self.result (phrase c.in_ok-text.text.now) (phrase c.in-Ok.after.now) whole c.in-Ok.ensures c.next_item-self.ensures.read }

pub returns-clause-steps : goal.returns-clause-steps
returns-clause-steps c =
    let typed = c.args.self.now.typed in
    let whole = ap is_some (ap (columns_from typed) (sym c.in_ok-text.was)) ∙ c.args.self.now.listed in
    ap (λ r. items_of (columns_from typed r)) c.in_ok-text.was
    ∙ next-items (columns_at typed) (folded c.in-Ok.name.now) c.next_item-self.result (phrase c.in_ok-text.text.now) (phrase c.in-Ok.after.now) whole c.in-Ok.ensures c.next_item-self.ensures.read

pub returns-clause-goes : goal.returns-clause-goes
returns-clause-goes c =
    let typed = c.args.self.now.typed in
    let whole = ap is_some (ap (columns_from typed) (sym c.in_ok-text.was)) ∙ c.args.self.now.listed in
    goes-first _ (λ _. tt) columns_left _ _ c.in-Ok.name (folded c.in-Ok.name.now) (ap (λ r. items_of (columns_from typed r)) c.in_ok-text.was
    ∙ next-items (columns_at typed) (folded c.in-Ok.name.now) c.next_item-self.result (phrase c.in_ok-text.text.now) (phrase c.in-Ok.after.now) whole c.in-Ok.ensures c.next_item-self.ensures.read)
