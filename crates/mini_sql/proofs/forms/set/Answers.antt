use Rattle.mini_sql.specs.Statements.{set}
use Rattle.mini_sql.proofs.Steps.{reads-to, either-first, either-second}
use Rattle.mini_sql.proofs.forms.set.Goals as goal

pub returns-in-Ok : goal.returns-in-Ok
unfolding set
returns-in-Ok c = either-first _ _ _ _ c.in-Ok.ensures

pub returns-in-Err : goal.returns-in-Err
unfolding set
returns-in-Err c = reads-to _ _ _ (either-second _ _ _ c.in-Err.ensures) c.set_name.ensures
