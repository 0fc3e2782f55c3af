use Rattle.std.proofs.Common.{sym, ◌∙◌, ap, bytes_eq}
use Rattle.std.specs.List.{list_any}
use Rattle.text_lines.proofs.Tables.{list_any-map}
use Rattle.ini_config.proofs.seen_keys.SeenKeys.has.Goals as goal

pub returns : goal.returns
returns c =
    let through = list_any-map (bytes_eq c.args.key.now) (λ k. k.now) c.self.inside.keys.keys in
    c.contains.ensures ∙ sym through ∙ ap (list_any (bytes_eq c.args.key.now)) c.self.view_is
