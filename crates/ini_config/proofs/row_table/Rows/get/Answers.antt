use Rattle.std.proofs.Common.{◌∙◌, ap}
use Rattle.ini_config.specs.Tables.{row_named}
use Rattle.text_lines.proofs.Tables.{lookup-named}
use Rattle.ini_config.proofs.row_table.Rows.get.Goals as goal

pub returns : goal.returns
returns c =
    c.get.ensures.value ∙ lookup-named (λ k. k.items) (λ r. r.name) c.args.name.now c.self.inside.by_name.entries c.self.invariant
    ∙ ap (row_named c.args.name.now) c.self.view_is
