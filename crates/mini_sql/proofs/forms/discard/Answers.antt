use Rattle.mini_sql.specs.Statements.{discard}
use Rattle.mini_sql.proofs.forms.discard.Goals as goal

pub returns : goal.returns
unfolding discard
returns c = c.all.ensures
