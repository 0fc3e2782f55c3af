use Rattle.std.proofs.Common.{◌∙◌}
use Rattle.mini_sql.specs.Statements.{fetch}
use Rattle.mini_sql.proofs.Steps.{reads-err, reads-to, pass-to, pass-no, value-to, value-no}
use Rattle.mini_sql.proofs.forms.fetch.Goals as goal

pub returns-in_err-count : goal.returns-in_err-count
unfolding fetch
returns-in_err-count c = reads-err _ _ c.from_residual.ensures.0 (value-no _ _ _ c.in_err-count.ensures)

pub returns-in_err-after_word : goal.returns-in_err-after_word
unfolding fetch
returns-in_err-after_word c = reads-err _ _ c.from_residual-in_err-after_word.ensures.0 (value-to _ _ _ _ _ c.in_ok-count.ensures ∙ pass-no _ _ _ c.in_err-after_word.ensures)

pub returns-in_err-cursor : goal.returns-in_err-cursor
unfolding fetch
returns-in_err-cursor c =
    reads-err _ _ c.from_residual-in_err-cursor.ensures.0 (value-to _ _ _ _ _ c.in_ok-count.ensures ∙ pass-to _ _ _ _ c.in_ok-after_word.ensures ∙ value-no _ _ _ c.in_err-cursor.ensures.column)

pub returns : goal.returns
unfolding fetch
returns c = reads-to _ _ _ (value-to _ _ _ _ _ c.in_ok-count.ensures ∙ pass-to _ _ _ _ c.in_ok-after_word.ensures ∙ value-to _ _ _ _ _ c.in_ok-cursor.ensures.column) c.finish.ensures
