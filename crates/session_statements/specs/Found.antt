-- What the code's look-ups find, in the definitions' words.
use Rattle.std.specs.Prelude.{Result, Ok, Err}
use Rattle.std.specs.Borrow.{Bor}
use Rattle.session_values.specs.declared.cause.Cause.{Cause}
use Rattle.mini_sql.specs.declared.stmt.Stmt.{Stmt}
use Rattle.mini_sql.specs.Statements.{Statement}
use Rattle.mini_sql.specs.Meanings.{meaning}
use Rattle.session_values.specs.State.{TableOf}

-- a table that is found, or why none is
abbrev pub found_table : Result (Bor TableOf) Cause → Result TableOf Cause
found_table (Ok t) = Ok t.now
found_table (Err c) = Err c

-- the statement that is read, or why it can't be used
abbrev pub meant : Result Stmt Cause → Result Statement Cause
meant (Ok s) = Ok (meaning s)
meant (Err c) = Err c
