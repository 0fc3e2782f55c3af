-- The lists of columns that texts spell are short.
use Rattle.std.proofs.Common.{◌≡◌, ◌≤◌, List, length, arith, Some, Option, Result, Ok, Err}
use Rattle.std.specs.Prelude.{IfOk}
use Rattle.mini_sql.specs.declared.SqlError.{SqlError}
use Rattle.mini_sql.specs.declared.stmt.Stmt.{Stmt}
use Rattle.mini_sql.specs.Meanings.{Reads, meaning}
use Rattle.mini_sql.specs.Words.{Text}
use Rattle.mini_sql.specs.Tokens.{Token}
use Rattle.mini_sql.specs.Statements.{Statement, statement}
use Rattle.mini_sql.specs.Grammar as grammar
use Rattle.mini_sql.specs.Grammar.{Derives, Chosen}
use Rattle.mini_sql.specs.Laws.{StatementIsDerived}
use Rattle.session_values.specs.Picks.{HasAtMost64Columns}

chosen_few : {ts : List Token} {cs : List Text} → Chosen ts cs → length cs ≤ 64
chosen_few (grammar.every m) = omega arith
chosen_few (grammar.some c few) = few

derived_narrow : {ts : List Token} {s : Statement} → Derives ts s → HasAtMost64Columns s
derived_narrow grammar.empty = tt
derived_narrow (grammar.begin _ _) = tt
derived_narrow (grammar.commit _ _) = tt
derived_narrow (grammar.rollback _ _) = tt
derived_narrow (grammar.set _ _) = tt
derived_narrow (grammar.set_session _ _ _) = tt
derived_narrow (grammar.reset_all _ _) = tt
derived_narrow (grammar.reset _ _ _) = tt
derived_narrow (grammar.show _ _) = tt
derived_narrow (grammar.discard_all _ _) = tt
derived_narrow (grammar.create ts e _ _ _ _ _ _ few _) = few
derived_narrow (grammar.drop _ _ _) = tt
derived_narrow (grammar.insert ts e _ _ _ _ _ _ _) = tt
derived_narrow (grammar.select ts f n us _ chosen _ _ _) = chosen_few chosen
derived_narrow (grammar.set_local says local a) = tt
derived_narrow (grammar.declare ts says names is_cursor is_with holds is_for selects d none) = derived_narrow d
derived_narrow (grammar.fetch says counts from names) = tt
derived_narrow (grammar.close says names) = tt

pub narrow : StatementIsDerived → (t : Text) (s : Statement) → statement t ≡ Some s → HasAtMost64Columns s
narrow law t s e = derived_narrow (law t s e).2

-- what is read is narrow
pub narrow_reading : StatementIsDerived → (t : Text) (r : Result Stmt SqlError) → Reads r (statement t) → IfOk r (λ s. HasAtMost64Columns (meaning s))
narrow_reading law t (Ok s) h = narrow law t (meaning s) h
narrow_reading law t (Err e) h = tt
