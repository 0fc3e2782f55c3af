use Rattle.std.proofs.Common.{◌≡◌, ℕ, List, [], ◌∷◌, ◌++◌, Some, None, vec_len, ap, sym, ◌∙◌, arith, suc, take, slice_get}
use Rattle.std.specs.Option.{option_copied}
use Rattle.std.proofs.lemmas.Grind.{common_steps}
use Rattle.ini_config.specs.declared.database_rows.DbRow.{DbRow}
use Rattle.book_model.specs.Limits.{row_in, rows_in}
use Rattle.book_model.proofs.FirstItems.{no_more, one_more}
use Rattle.book_model.proofs.settings.rows_of.Goals as goal

pub rows-preserved : goal.rows-preserved
rows-preserved c =
    let size : ℕ = c.args.settings.now.default_pool_size in
    let rows : List DbRow = c.args.settings.now.rows in
    let there : slice_get rows (vec_len c.rows.listed) ≡ Some c.in-Some.row.now = ap (slice_get rows) (sym c.len.ensures) ∙ (sym c.at.ensures ∙ ap option_copied c.in-Some.is) in
    let more : rows_in size (take (vec_len c.rows.listed) rows) ++ row_in size c.in-Some.row.now ∷ [] ≡ rows_in size (take (suc (vec_len c.rows.listed)) rows) = one_more (row_in size) rows (vec_len c.rows.listed) c.in-Some.row.now there in
    grind (arith, common_steps)

pub returns : goal.returns
returns c =
    let size : ℕ = c.args.settings.now.default_pool_size in
    let rows : List DbRow = c.args.settings.now.rows in
    let there : slice_get rows (vec_len c.rows.listed) ≡ None = ap (slice_get rows) (sym c.len.ensures) ∙ (sym c.at.ensures ∙ ap option_copied c.in_default.is) in
    c.rows.invariant ∙ no_more (row_in size) rows (vec_len c.rows.listed) there
