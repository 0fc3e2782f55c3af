use Rattle.std.proofs.Common.{sym, ap, ◌∙◌}
use Rattle.std.specs.Prelude.{is_some}
use Rattle.mini_sql.specs.Statements.{items, operand_of, phrase}
use Rattle.mini_sql.specs.Lists.{items_of, operands_from}
use Rattle.mini_sql.specs.Meanings.{operands_left, operand_value}
use Rattle.mini_sql.proofs.Reading.{next-some, next-items, goes-first}
use Rattle.mini_sql.proofs.lists.OperandsIterator.next.Goals as goal

pub invariant_of-self : goal.invariant_of-self
invariant_of-self c =
    let whole = ap is_some (ap operands_from (sym c.in_ok-text.was)) ∙ c.args.self.now.listed in
    record { listed = next-some (items operand_of) (operand_value c.in-Ok.operand) c.next_item-self.result (phrase c.in_ok-text.text.now) (phrase c.in-Ok.after.now) whole c.in-Ok.ensures.item c.next_item-self.ensures.read }

pub returns-clause-steps : goal.returns-clause-steps
returns-clause-steps c =
    let whole = ap is_some (ap operands_from (sym c.in_ok-text.was)) ∙ c.args.self.now.listed in
    ap (λ r. items_of (operands_from r)) c.in_ok-text.was
    ∙ next-items (items operand_of) (operand_value c.in-Ok.operand) c.next_item-self.result (phrase c.in_ok-text.text.now) (phrase c.in-Ok.after.now) whole c.in-Ok.ensures.item c.next_item-self.ensures.read

pub returns-clause-goes : goal.returns-clause-goes
returns-clause-goes c =
    let whole = ap is_some (ap operands_from (sym c.in_ok-text.was)) ∙ c.args.self.now.listed in
    goes-first _ (λ _. tt) operands_left _ _ c.in-Ok.operand (operand_value c.in-Ok.operand) (ap (λ r. items_of (operands_from r)) c.in_ok-text.was
    ∙ next-items (items operand_of) (operand_value c.in-Ok.operand) c.next_item-self.result (phrase c.in_ok-text.text.now) (phrase c.in-Ok.after.now) whole c.in-Ok.ensures.item c.next_item-self.ensures.read)
