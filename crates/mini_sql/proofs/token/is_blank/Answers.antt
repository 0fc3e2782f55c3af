use Rattle.mini_sql.proofs.Lexing.{blank}
use Rattle.mini_sql.proofs.token.is_blank.Goals as goal

pub returns : goal.returns
returns c = blank _ _ _ c.is_empty.ensures c.after_white.ensures.tokens c.after_white.ensures.first
