use Rattle.mini_sql.proofs.Deriving.{statement-derives}
use Rattle.mini_sql.proofs.laws.statement_is_derived.Goals as goal

pub returns : goal.returns
returns c = statement-derives
