use Rattle.std.proofs.Common.{◌∙◌, sym, ap, Some}
use Rattle.mini_sql.specs.Words.{folded}
use Rattle.mini_sql.specs.Statements.{value_list, Insert}
use Rattle.mini_sql.proofs.Steps.{reads-err, pass-no, sign-to, end-to, end-no, operands-to, operands-no, after-some, rest-some}
use Rattle.mini_sql.proofs.forms.values.Goals as goal

pub returns-in_err-list : goal.returns-in_err-list
unfolding value_list
returns-in_err-list c = reads-err _ _ c.from_residual.ensures.0 (pass-no _ _ _ c.in_err-list.ensures.read)

pub returns-in_err-after : goal.returns-in_err-after
unfolding value_list
returns-in_err-after c = reads-err _ _ c.from_residual-in_err-after.ensures.0 (sign-to _ _ _ _ c.in_ok-list.ensures.read ∙ operands-no _ _ c.in_err-after.ensures)

pub returns-in_err-rest : goal.returns-in_err-rest
unfolding value_list
returns-in_err-rest c = reads-err _ _ c.from_residual-in_err-rest.ensures.0 (sign-to _ _ _ _ c.in_ok-list.ensures.read ∙ operands-to _ _ _ c.in_ok-after.ensures ∙ pass-no _ _ _ c.in_err-rest.ensures.read)

pub returns-then-not-is_end : goal.returns-then-not-is_end
unfolding value_list
returns-then-not-is_end c = sign-to _ _ _ _ c.in_ok-list.ensures.read ∙ operands-to _ _ _ c.in_ok-after.ensures ∙ sign-to _ _ _ _ c.in_ok-rest.ensures.read ∙ end-no _ _ (sym c.if-not-is_end.ensures)

pub new-requires : goal.new-requires
new-requires c = rest-some _ _ c.in_ok-after.ensures (after-some _ _ _ c.in_ok-rest.ensures.read (sym c.if-not-is_end.ensures))

pub returns : goal.returns
unfolding value_list
returns c = sign-to _ _ _ _ c.in_ok-list.ensures.read ∙ operands-to _ _ _ c.in_ok-after.ensures ∙ sign-to _ _ _ _ c.in_ok-rest.ensures.read ∙ end-to _ _ (sym c.if-not-is_end.ensures) ∙ ap (λ xs. Some (Insert (folded c.args.table.now) xs)) (sym c.new.ensures)
