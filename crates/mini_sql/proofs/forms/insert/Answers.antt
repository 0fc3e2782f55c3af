use Rattle.std.proofs.Common.{◌∙◌}
use Rattle.mini_sql.specs.Statements.{insert}
use Rattle.mini_sql.proofs.Steps.{reads-err, reads-to, pass-to, pass-no, value-to, value-no}
use Rattle.mini_sql.proofs.forms.insert.Goals as goal

pub returns-in_err-after_into : goal.returns-in_err-after_into
unfolding insert
returns-in_err-after_into c = reads-err _ _ c.from_residual.ensures.0 (pass-no _ _ _ c.in_err-after_into.ensures)

pub returns-in_err-table : goal.returns-in_err-table
unfolding insert
returns-in_err-table c = reads-err _ _ c.from_residual-in_err-table.ensures.0 (pass-to _ _ _ _ c.in_ok-after_into.ensures ∙ value-no _ _ _ c.in_err-table.ensures.column)

pub returns-in_err-rest : goal.returns-in_err-rest
unfolding insert
returns-in_err-rest c = reads-err _ _ c.from_residual-in_err-rest.ensures.0 (pass-to _ _ _ _ c.in_ok-after_into.ensures ∙ value-to _ _ _ _ _ c.in_ok-table.ensures.column ∙ pass-no _ _ _ c.in_err-rest.ensures)

pub returns : goal.returns
unfolding insert
returns c = reads-to _ _ _ (pass-to _ _ _ _ c.in_ok-after_into.ensures ∙ value-to _ _ _ _ _ c.in_ok-table.ensures.column ∙ pass-to _ _ _ _ c.in_ok-rest.ensures) c.values.ensures
