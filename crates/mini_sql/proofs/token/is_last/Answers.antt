use Rattle.mini_sql.specs.Statements.{phrase}
use Rattle.mini_sql.proofs.Lexing.{less-other, less-blank}
use Rattle.mini_sql.proofs.token.is_last.Goals as goal

pub returns-then-not-is_semicolon : goal.returns-then-not-is_semicolon
unfolding phrase
returns-then-not-is_semicolon c = less-other _ _ c.if-not-is_semicolon.ensures

pub returns : goal.returns
returns c = less-blank _ _ _ c.if-not-is_semicolon.ensures c.is_blank.ensures
