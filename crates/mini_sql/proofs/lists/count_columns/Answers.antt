use Rattle.std.proofs.Common.{length, arith, ap, inl}
use Rattle.mini_sql.proofs.Short.{listed-columns}
use Rattle.mini_sql.proofs.lists.count_columns.Goals as goal

pub count-requires-clause-fits : goal.count-requires-clause-fits
count-requires-clause-fits c = let short = listed-columns c.args.typed c.args.text.now in let same = ap length c.new.ensures in inl (omega arith)
