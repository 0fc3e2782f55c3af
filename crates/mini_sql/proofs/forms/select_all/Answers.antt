use Rattle.std.proofs.Common.{◌∙◌, sym, ap, Some}
use Rattle.mini_sql.specs.Words.{folded}
use Rattle.mini_sql.specs.Statements.{Select}
use Rattle.mini_sql.proofs.Steps.{reads-err, pass-no, sign-to}
use Rattle.mini_sql.proofs.forms.select_all.Goals as goal
use Rattle.mini_sql.specs.Meanings.{filter_of}

pub returns-in_err-after_star : goal.returns-in_err-after_star
returns-in_err-after_star c = reads-err _ _ c.from_residual.ensures.0 (pass-no _ _ _ c.in_err-after_star.ensures.read)

pub returns-in_err-table : goal.returns-in_err-table
returns-in_err-table c = reads-err _ _ c.from_residual-in_err-table.ensures.0 (sign-to _ _ _ _ c.in_ok-after_star.ensures.read ∙ c.in_err-table.ensures _)

pub returns : goal.returns
returns c =
    sign-to _ _ _ _ c.in_ok-after_star.ensures.read ∙ c.in_ok-table.ensures _
    ∙ ap (λ xs. Some (Select xs (folded c.in_ok-table.table.now) (filter_of c.in_ok-table.filter))) (sym c.none.ensures)
