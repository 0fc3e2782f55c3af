use Rattle.mini_sql.proofs.Steps.{read-fails}
use Rattle.mini_sql.proofs.reader.cursor_statement.Goals as goal

pub returns : goal.returns
returns c = rw (← c.if-is_word.ensures, ← c.if-is_word-2.ensures, ← c.if-is_word-3.ensures) (read-fails _)
