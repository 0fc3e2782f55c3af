use Rattle.std.proofs.Common.{◌∙◌}
use Rattle.mini_sql.specs.Statements.{declare}
use Rattle.mini_sql.proofs.Steps.{reads-err, reads-to, pass-to, pass-no, value-to, value-no}
use Rattle.mini_sql.proofs.forms.declare.Goals as goal

pub returns-in_err-cursor : goal.returns-in_err-cursor
unfolding declare
returns-in_err-cursor c = reads-err _ _ c.from_residual.ensures.0 (value-no _ _ _ c.in_err-cursor.ensures.column)

pub returns-in_err-after_cursor : goal.returns-in_err-after_cursor
unfolding declare
returns-in_err-after_cursor c = reads-err _ _ c.from_residual-in_err-after_cursor.ensures.0 (value-to _ _ _ _ _ c.in_ok-cursor.ensures.column ∙ pass-no _ _ _ c.in_err-after_cursor.ensures)

pub returns-in_err-after_with : goal.returns-in_err-after_with
unfolding declare
returns-in_err-after_with c = reads-err _ _ c.from_residual-in_err-after_with.ensures.0 (value-to _ _ _ _ _ c.in_ok-cursor.ensures.column ∙ pass-to _ _ _ _ c.in_ok-after_cursor.ensures ∙ pass-no _ _ _ c.in_err-after_with.ensures)

pub returns-in_err-after_hold : goal.returns-in_err-after_hold
unfolding declare
returns-in_err-after_hold c = reads-err _ _ c.from_residual-in_err-after_hold.ensures.0 (value-to _ _ _ _ _ c.in_ok-cursor.ensures.column ∙ pass-to _ _ _ _ c.in_ok-after_cursor.ensures ∙ pass-to _ _ _ _ c.in_ok-after_with.ensures ∙ pass-no _ _ _ c.in_err-after_hold.ensures)

pub returns-in_err-rest : goal.returns-in_err-rest
unfolding declare
returns-in_err-rest c = reads-err _ _ c.from_residual-in_err-rest.ensures.0 (value-to _ _ _ _ _ c.in_ok-cursor.ensures.column ∙ pass-to _ _ _ _ c.in_ok-after_cursor.ensures ∙ pass-to _ _ _ _ c.in_ok-after_with.ensures ∙ pass-to _ _ _ _ c.in_ok-after_hold.ensures ∙ pass-no _ _ _ c.in_err-rest.ensures)

pub returns : goal.returns
unfolding declare
returns c = reads-to _ _ _ (value-to _ _ _ _ _ c.in_ok-cursor.ensures.column ∙ pass-to _ _ _ _ c.in_ok-after_cursor.ensures ∙ pass-to _ _ _ _ c.in_ok-after_with.ensures ∙ pass-to _ _ _ _ c.in_ok-after_hold.ensures ∙ pass-to _ _ _ _ c.in_ok-rest.ensures) c.rows.ensures
