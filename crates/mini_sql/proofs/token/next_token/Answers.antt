use Rattle.std.proofs.Common.{◌∙◌}
use Rattle.mini_sql.specs.Statements.{less_semicolon}
use Rattle.mini_sql.proofs.Lexing.{phrase-of}
use Rattle.mini_sql.proofs.token.next_token.Goals as goal

pub returns-then-is_last-clause-read : goal.returns-then-is_last-clause-read
returns-then-is_last-clause-read c = let first = rw c.in-Ok-Some.field-0-is at c.in-Ok-Some.ensures.read in phrase-of _ _ first ∙ c.if-is_last.ensures

pub returns-else-is_last-clause-read : goal.returns-else-is_last-clause-read
returns-else-is_last-clause-read c = let first = rw c.in-Ok-Some.field-0-is at c.in-Ok-Some.ensures.read in phrase-of _ _ first ∙ c.if-is_last.ensures

pub returns-in-Ok-None-clause-read : goal.returns-in-Ok-None-clause-read
unfolding less_semicolon
returns-in-Ok-None-clause-read c = let first = rw c.in-Ok-None.field-0-is at c.in-Ok-None.ensures.read in phrase-of _ _ first

pub returns-in-Err-clause-read : goal.returns-in-Err-clause-read
unfolding less_semicolon
returns-in-Err-clause-read c = phrase-of _ _ c.in-Err.ensures.read
