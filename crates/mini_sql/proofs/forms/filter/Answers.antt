use Rattle.std.proofs.Common.{◌∙◌, sym}
use Rattle.mini_sql.specs.Statements.{end_of, where_of}
use Rattle.mini_sql.proofs.Steps.{filter-err, pass-to, pass-no, sign-to, value-to, value-no, end-to, end-no, either-first, either-second}
use Rattle.mini_sql.proofs.forms.filter.Goals as goal

pub returns-then-is_end : goal.returns-then-is_end
unfolding end_of where_of
returns-then-is_end c = λ cs t. either-first _ _ _ _ (end-to _ _ (sym c.if-is_end.ensures))

pub returns-in_err-after_word : goal.returns-in_err-after_word
unfolding end_of where_of
returns-in_err-after_word c = filter-err _ _ c.from_residual.ensures.0 (λ cs t. either-second _ _ _ (end-no _ _ (sym c.if-is_end.ensures)) ∙ pass-no _ _ _ c.in_err-after_word.ensures)

pub returns-in_err-column : goal.returns-in_err-column
unfolding end_of where_of
returns-in_err-column c = filter-err _ _ c.from_residual-in_err-column.ensures.0 (λ cs t. either-second _ _ _ (end-no _ _ (sym c.if-is_end.ensures)) ∙ pass-to _ _ _ _ c.in_ok-after_word.ensures ∙ value-no _ _ _ c.in_err-column.ensures.column)

pub returns-in_err-after_sign : goal.returns-in_err-after_sign
unfolding end_of where_of
returns-in_err-after_sign c = filter-err _ _ c.from_residual-in_err-after_sign.ensures.0 (λ cs t. either-second _ _ _ (end-no _ _ (sym c.if-is_end.ensures)) ∙ pass-to _ _ _ _ c.in_ok-after_word.ensures ∙ value-to _ _ _ _ _ c.in_ok-column.ensures.column ∙ pass-no _ _ _ c.in_err-after_sign.ensures.read)

pub returns-in_err-value : goal.returns-in_err-value
unfolding end_of where_of
returns-in_err-value c = filter-err _ _ c.from_residual-in_err-value.ensures.0 (λ cs t. either-second _ _ _ (end-no _ _ (sym c.if-is_end.ensures)) ∙ pass-to _ _ _ _ c.in_ok-after_word.ensures ∙ value-to _ _ _ _ _ c.in_ok-column.ensures.column ∙ sign-to _ _ _ _ c.in_ok-after_sign.ensures.read ∙ value-no _ _ _ c.in_err-value.ensures.read)

pub returns-then-not-is_end : goal.returns-then-not-is_end
unfolding end_of where_of
returns-then-not-is_end c = λ cs t. either-second _ _ _ (end-no _ _ (sym c.if-is_end.ensures)) ∙ pass-to _ _ _ _ c.in_ok-after_word.ensures ∙ value-to _ _ _ _ _ c.in_ok-column.ensures.column ∙ sign-to _ _ _ _ c.in_ok-after_sign.ensures.read ∙ value-to _ _ _ _ _ c.in_ok-value.ensures.read ∙ end-no _ _ (sym c.if-not-is_end.ensures)

pub returns : goal.returns
unfolding end_of where_of
returns c = λ cs t. either-second _ _ _ (end-no _ _ (sym c.if-is_end.ensures)) ∙ pass-to _ _ _ _ c.in_ok-after_word.ensures ∙ value-to _ _ _ _ _ c.in_ok-column.ensures.column ∙ sign-to _ _ _ _ c.in_ok-after_sign.ensures.read ∙ value-to _ _ _ _ _ c.in_ok-value.ensures.read ∙ end-to _ _ (sym c.if-not-is_end.ensures)
