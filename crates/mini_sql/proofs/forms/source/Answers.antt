use Rattle.std.proofs.Common.{◌∙◌}
use Rattle.mini_sql.specs.Statements.{from_of}
use Rattle.mini_sql.proofs.Steps.{source-err, pass-to, pass-no, value-to, value-no}
use Rattle.mini_sql.proofs.forms.source.Goals as goal

pub returns-in_err-after_word : goal.returns-in_err-after_word
unfolding from_of
returns-in_err-after_word c = source-err _ _ c.from_residual.ensures.0 (λ cs. pass-no _ _ _ c.in_err-after_word.ensures)

pub returns-in_err-table : goal.returns-in_err-table
unfolding from_of
returns-in_err-table c = source-err _ _ c.from_residual-in_err-table.ensures.0 (λ cs. pass-to _ _ _ _ c.in_ok-after_word.ensures ∙ value-no _ _ _ c.in_err-table.ensures.column)

pub returns-in_err-filter : goal.returns-in_err-filter
unfolding from_of
returns-in_err-filter c =
    source-err _ _ c.from_residual-in_err-filter.ensures.0 (λ cs. pass-to _ _ _ _ c.in_ok-after_word.ensures ∙ value-to _ _ _ _ _ c.in_ok-table.ensures.column ∙ c.in_err-filter.ensures cs _)

pub returns : goal.returns
unfolding from_of
returns c = λ cs. pass-to _ _ _ _ c.in_ok-after_word.ensures ∙ value-to _ _ _ _ _ c.in_ok-table.ensures.column ∙ c.in_ok-filter.ensures cs _
