use Rattle.std.proofs.Common.{◌∙◌, ap}
use Rattle.user_file.specs.Users.{user_named}
use Rattle.text_lines.proofs.Tables.{lookup-named}
use Rattle.user_file.proofs.user_table.UserTable.row.Goals as goal

pub returns : goal.returns
returns c =
    c.get.ensures.value ∙ lookup-named (λ k. k.items) (λ r. r.name) c.args.name.now c.self.inside.by_name.entries c.self.invariant
    ∙ ap (user_named c.args.name.now) c.self.view_is
