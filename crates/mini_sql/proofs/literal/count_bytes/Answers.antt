use Rattle.std.proofs.Common.{arith, inl}
use Rattle.mini_sql.proofs.Quotes.{unquoted-short}
use Rattle.mini_sql.proofs.literal.count_bytes.Goals as goal

pub count-requires-clause-fits : goal.count-requires-clause-fits
count-requires-clause-fits c = let short = unquoted-short c.args.text.now in inl (omega arith)
