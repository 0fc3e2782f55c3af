use Rattle.mini_sql.proofs.Steps.{reads-err, reads-to, value-to, value-no}
use Rattle.mini_sql.proofs.forms.reset_name.Goals as goal

pub returns-in_err-name : goal.returns-in_err-name
returns-in_err-name c = reads-err _ _ c.from_residual.ensures.0 (value-no _ _ _ c.in_err-name.ensures.name)

pub returns : goal.returns
returns c = reads-to _ _ _ (value-to _ _ _ _ _ c.in_ok-name.ensures.name) c.finish.ensures
