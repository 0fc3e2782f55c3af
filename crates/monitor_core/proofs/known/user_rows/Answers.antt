use Rattle.std.proofs.Common.{◌≡◌, ℕ, List, [], ◌∷◌, ◌++◌, Some, None, vec_len, ap, sym, ◌∙◌, arith, map, suc, take, slice_get}
use Rattle.std.specs.Option.{option_copied}
use Rattle.std.proofs.lemmas.Grind.{common_steps}
use Rattle.user_file.specs.declared.user_table.UserRow.{UserRow}
use Rattle.book_model.proofs.FirstItems.{no_more, one_more}
use Rattle.monitor_core.specs.Known.{user_row}
use Rattle.monitor_core.proofs.known.user_rows.Goals as goal

pub users-preserved : goal.users-preserved
users-preserved c =
    let users : List UserRow = c.args.users.now.rows in
    let there : slice_get users (vec_len c.users.rows) ≡ Some c.in-Some.user.now = ap (slice_get users) (sym c.len.ensures) ∙ (sym c.at.ensures ∙ ap option_copied c.in-Some.is) in
    let more : map user_row (take (vec_len c.users.rows) users) ++ user_row c.in-Some.user.now ∷ [] ≡ map user_row (take (suc (vec_len c.users.rows)) users) = one_more user_row users (vec_len c.users.rows) c.in-Some.user.now there in
    grind (arith, common_steps)

pub returns : goal.returns
returns c =
    let users : List UserRow = c.args.users.now.rows in
    let there : slice_get users (vec_len c.users.rows) ≡ None = ap (slice_get users) (sym c.len.ensures) ∙ (sym c.at.ensures ∙ ap option_copied c.in_default.is) in
    c.users.invariant ∙ no_more user_row users (vec_len c.users.rows) there
