use Rattle.mini_sql.proofs.Steps.{reads-err, reads-to, pass-to, pass-no}
use Rattle.mini_sql.proofs.forms.session_assignment.Goals as goal

pub returns-in_err-rest : goal.returns-in_err-rest
returns-in_err-rest c = reads-err _ _ c.from_residual.ensures.0 (pass-no _ _ _ c.in_err-rest.ensures)

pub returns : goal.returns
returns c = reads-to _ _ _ (pass-to _ _ _ _ c.in_ok-rest.ensures) c.assignment.ensures
