use Rattle.std.proofs.Common.{◌∙◌}
use Rattle.mini_sql.specs.Statements.{drop_table}
use Rattle.mini_sql.proofs.Steps.{reads-err, reads-to, pass-to, pass-no, value-to, value-no}
use Rattle.mini_sql.proofs.forms.drop_table.Goals as goal

pub returns-in_err-after_word : goal.returns-in_err-after_word
unfolding drop_table
returns-in_err-after_word c = reads-err _ _ c.from_residual.ensures.0 (pass-no _ _ _ c.in_err-after_word.ensures)

pub returns-in_err-table : goal.returns-in_err-table
unfolding drop_table
returns-in_err-table c = reads-err _ _ c.from_residual-in_err-table.ensures.0 (pass-to _ _ _ _ c.in_ok-after_word.ensures ∙ value-no _ _ _ c.in_err-table.ensures.column)

pub returns : goal.returns
unfolding drop_table
returns c = reads-to _ _ _ (pass-to _ _ _ _ c.in_ok-after_word.ensures ∙ value-to _ _ _ _ _ c.in_ok-table.ensures.column) c.finish.ensures
