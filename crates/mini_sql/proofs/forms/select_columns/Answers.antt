use Rattle.std.proofs.Common.{[], ◌∙◌, sym, ap, Some}
use Rattle.mini_sql.specs.Words.{folded}
use Rattle.mini_sql.specs.Statements.{Select, from_of}
use Rattle.mini_sql.proofs.Steps.{reads-err, columns-to, columns-no, rest-some, limited-some, read-some}
use Rattle.mini_sql.proofs.forms.select_columns.Goals as goal
use Rattle.mini_sql.specs.Meanings.{filter_of}

pub returns-in_err-after : goal.returns-in_err-after
returns-in_err-after c = reads-err _ _ c.from_residual.ensures.0 (columns-no _ _ _ c.in_err-after.ensures)

pub returns-in_err-table : goal.returns-in_err-table
returns-in_err-table c = reads-err _ _ c.from_residual-in_err-table.ensures.0 (columns-to _ _ _ _ c.in_ok-after.ensures ∙ c.in_err-table.ensures _)

pub new-requires : goal.new-requires
new-requires c = limited-some _ (rest-some _ _ c.in_ok-after.ensures (read-some (from_of []) _ _ (c.in_ok-table.ensures [])))

pub returns : goal.returns
returns c =
    columns-to _ _ _ _ c.in_ok-after.ensures ∙ c.in_ok-table.ensures _
    ∙ ap (λ xs. Some (Select xs (folded c.in_ok-table.table.now) (filter_of c.in_ok-table.filter))) (sym c.new.ensures)
