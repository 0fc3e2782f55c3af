use Rattle.mini_sql.specs.Statements.{set_name}
use Rattle.mini_sql.proofs.Steps.{reads-to, either-first, either-second}
use Rattle.mini_sql.proofs.forms.set_name.Goals as goal

pub returns-in-Ok : goal.returns-in-Ok
unfolding set_name
returns-in-Ok c = either-first _ _ _ _ c.in-Ok.ensures

pub returns-in-Err : goal.returns-in-Err
unfolding set_name
returns-in-Err c = reads-to _ _ _ (either-second _ _ _ c.in-Err.ensures) c.assignment.ensures
