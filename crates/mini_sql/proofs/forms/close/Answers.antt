use Rattle.mini_sql.specs.Statements.{close}
use Rattle.mini_sql.proofs.Steps.{reads-err, reads-to, value-to, value-no}
use Rattle.mini_sql.proofs.forms.close.Goals as goal

pub returns-in_err-cursor : goal.returns-in_err-cursor
unfolding close
returns-in_err-cursor c = reads-err _ _ c.from_residual.ensures.0 (value-no _ _ _ c.in_err-cursor.ensures.column)

pub returns : goal.returns
unfolding close
returns c = reads-to _ _ _ (value-to _ _ _ _ _ c.in_ok-cursor.ensures.column) c.finish.ensures
