use Rattle.std.proofs.Common.{◌∙◌}
use Rattle.mini_sql.specs.Statements.{assignment}
use Rattle.mini_sql.proofs.Steps.{reads-err, reads-to, pass-to, pass-no, value-to, value-no}
use Rattle.mini_sql.proofs.forms.local_assignment.Goals as goal

pub returns-in_err-after_word : goal.returns-in_err-after_word
unfolding assignment
returns-in_err-after_word c = reads-err _ _ c.from_residual.ensures.0 (pass-no _ _ _ c.in_err-after_word.ensures)

pub returns-in_err-name : goal.returns-in_err-name
unfolding assignment
returns-in_err-name c = reads-err _ _ c.from_residual-in_err-name.ensures.0 (pass-to _ _ _ _ c.in_ok-after_word.ensures ∙ value-no _ _ _ c.in_err-name.ensures.name)

pub returns-in_err-after_sign : goal.returns-in_err-after_sign
unfolding assignment
returns-in_err-after_sign c =
    reads-err _ _ c.from_residual-in_err-after_sign.ensures.0 (pass-to _ _ _ _ c.in_ok-after_word.ensures ∙ value-to _ _ _ _ _ c.in_ok-name.ensures.name ∙ pass-no _ _ _ c.in_err-after_sign.ensures)

pub returns-in_err-to : goal.returns-in_err-to
unfolding assignment
returns-in_err-to c =
    reads-err _ _ c.from_residual-in_err-to.ensures.0
    (pass-to _ _ _ _ c.in_ok-after_word.ensures ∙ value-to _ _ _ _ _ c.in_ok-name.ensures.name ∙ pass-to _ _ _ _ c.in_ok-after_sign.ensures ∙ value-no _ _ _ c.in_err-to.ensures)

pub returns : goal.returns
unfolding assignment
returns c =
    reads-to _ _ _
    (pass-to _ _ _ _ c.in_ok-after_word.ensures ∙ value-to _ _ _ _ _ c.in_ok-name.ensures.name ∙ pass-to _ _ _ _ c.in_ok-after_sign.ensures ∙ value-to _ _ _ _ _ c.in_ok-to.ensures)
    c.finish.ensures
