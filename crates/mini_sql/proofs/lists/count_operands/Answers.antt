use Rattle.std.proofs.Common.{length, arith, ap, inl}
use Rattle.mini_sql.specs.Statements.{operand_of}
use Rattle.mini_sql.proofs.Short.{listed-items}
use Rattle.mini_sql.proofs.lists.count_operands.Goals as goal

pub count-requires-clause-fits : goal.count-requires-clause-fits
count-requires-clause-fits c = let short = listed-items operand_of c.args.text.now in let same = ap length c.new.ensures in inl (omega arith)
