use Rattle.mini_sql.specs.Statements.{statement}
use Rattle.mini_sql.proofs.Steps.{reads-to, by-first, by-none, by-fault}
use Rattle.mini_sql.proofs.reader.read_statement.Goals as goal

pub returns-in-Ok-Some : goal.returns-in-Ok-Some
unfolding statement
returns-in-Ok-Some c = let first = rw c.in-Ok-Some.field-0-is at c.in-Ok-Some.ensures.read in reads-to _ _ _ (by-first _ _ _ first) c.statement_of.ensures

pub returns-in-Ok-None : goal.returns-in-Ok-None
unfolding statement
returns-in-Ok-None c = let first = rw c.in-Ok-None.field-0-is at c.in-Ok-None.ensures.read in by-none _ first

pub returns-in-Err : goal.returns-in-Err
unfolding statement
returns-in-Err c = by-fault _ c.in-Err.ensures.read
