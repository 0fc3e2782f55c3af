use Rattle.std.proofs.Common.{ap, ◌∙◌}
use Rattle.std.specs.Prelude.{map}
use Rattle.text_lines.proofs.Tables.{keys-added}
use Rattle.ini_config.proofs.seen_keys.SeenKeys.add.Goals as goal

pub returns : goal.returns
returns c =
    ap (map (λ k. k.now)) c.in_ok-insert.ensures.keys
    ∙ keys-added (λ k. k.now) c.self.inside.keys.keys c.args.key c.args.self.now c.self.view_is c.requires
