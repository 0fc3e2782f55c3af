use Rattle.std.proofs.Common.{◌≡◌, ◌++◌, ◌∷◌, [], ap, ◌∙◌, false, bytes_eq}
use Rattle.std.specs.Prelude.{map}
use Rattle.std.specs.List.{list_any}
use Rattle.text_lines.proofs.Tables.{keys-added}
use Rattle.settings_check.proofs.users.SeenNames.add.Goals as goal

pub returns : goal.returns
returns c =
    let own = c.in_ok-name.ensures.items in
    let before = c.args.self.now in
    let fresh : list_any (bytes_eq c.in_ok-name.name.items) before ≡ false = ap (λ n. list_any (bytes_eq n) before) own ∙ c.requires in
    ap (map (λ k. k.items)) c.in_ok-insert.ensures.keys
    ∙ keys-added (λ k. k.items) c.self.inside.names.keys c.in_ok-name.name before c.self.view_is fresh
    ∙ ap (λ n. before ++ n ∷ []) own
