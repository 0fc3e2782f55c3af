use Rattle.std.proofs.Common.{◌∙◌}
use Rattle.mini_sql.specs.Statements.{rows_of}
use Rattle.mini_sql.proofs.Steps.{reads-err, reads-to, pass-to, pass-no, over-to}
use Rattle.mini_sql.proofs.forms.rows.Goals as goal

pub returns-in_err-rest : goal.returns-in_err-rest
unfolding rows_of
returns-in_err-rest c = reads-err _ _ c.from_residual.ensures.0 (pass-no _ _ _ c.in_err-rest.ensures)

pub returns-in_err-stmt : goal.returns-in_err-stmt
unfolding rows_of
returns-in_err-stmt c = reads-err _ _ c.from_residual-in_err-stmt.ensures.0 (pass-to _ _ _ _ c.in_ok-rest.ensures ∙ over-to _ _ _ c.in_err-stmt.ensures)

pub returns : goal.returns
unfolding rows_of
returns c = reads-to _ _ _ (pass-to _ _ _ _ c.in_ok-rest.ensures ∙ over-to _ _ _ c.in_ok-stmt.ensures) c.declared_over.ensures
