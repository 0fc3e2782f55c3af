use Rattle.std.proofs.Common.{sym, ◌∙◌, ap, bytes_eq}
use Rattle.std.specs.List.{list_any}
use Rattle.text_lines.proofs.Tables.{list_any-map}
use Rattle.settings_check.proofs.users.SeenNames.has.Goals as goal

pub returns : goal.returns
returns c =
    let through = list_any-map (bytes_eq c.args.name.now) (λ k. k.items) c.self.inside.names.keys in
    c.contains.ensures ∙ sym through ∙ ap (list_any (bytes_eq c.args.name.now)) c.self.view_is
