use Rattle.mini_sql.specs.Words.{folded}
use Rattle.mini_sql.specs.Statements.{columns_at}
use Rattle.mini_sql.proofs.Reading.{item-err, column-typed, column-typed_none, column-bare, column-none}
use Rattle.mini_sql.proofs.parts.take_column.Goals as goal

pub returns-in_err-name : goal.returns-in_err-name
returns-in_err-name c = item-err (λ n. folded n.now) (columns_at c.args.typed) _ _ c.from_residual.ensures.0 (column-none _ _ c.in_err-name.ensures.column)

pub returns-in_err-after : goal.returns-in_err-after
returns-in_err-after c = item-err (λ n. folded n.now) (columns_at c.args.typed) _ _ c.from_residual-in_err-after.ensures.0 (column-typed_none _ _ _ _ c.if-typed.true c.in_ok-name.ensures.column c.in_err-after.ensures)

pub returns-then-typed : goal.returns-then-typed
returns-then-typed c = column-typed _ _ _ _ _ c.if-typed.true c.in_ok-name.ensures.column c.in_ok-after.ensures

pub returns : goal.returns
returns c = column-bare _ _ _ _ c.if-typed.false c.in_ok-name.ensures.column
