use Rattle.mini_sql.proofs.Derived.{derives-one}
use Rattle.mini_sql.proofs.laws.derives_one.Goals as goal

pub returns : goal.returns
returns c = derives-one
