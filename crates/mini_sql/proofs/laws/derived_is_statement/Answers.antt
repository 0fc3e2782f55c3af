use Rattle.mini_sql.proofs.Derived.{derived-statement}
use Rattle.mini_sql.proofs.laws.derived_is_statement.Goals as goal

pub returns : goal.returns
returns c = derived-statement
