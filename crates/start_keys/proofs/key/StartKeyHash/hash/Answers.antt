use Rattle.std.proofs.Common.{◌∙◌, ap, sym}
use Rattle.std.specs.Prelude.{◌++◌}
use Rattle.std.specs.List.{fold}
use Rattle.std.specs.Hash as fed
use Rattle.std.proofs.lemmas.List.Sums.{fold-append}
use Rattle.session_values.specs.State.{StartKeyOf}
use Rattle.start_keys.specs.Keys.{text_hashed, pair_hashed, key_hashed}
use Rattle.start_keys.proofs.key.StartKeyHash.hash.Goals as goal

pub returns : goal.returns
returns g c =
    let w = g.H.Hasher.write in
    let s = c.args.state.now in
    let row = text_hashed c.self.inside.row in
    let user = text_hashed c.self.inside.user in
    let parameters = fed.slice pair_hashed c.self.inside.parameters.items in
    c.hash-3.ensures
    ∙ ap (λ t. fold w t parameters) (c.hash-2.ensures ∙ ap (λ t. fold w t user) c.hash.ensures ∙ sym (fold-append w s row user))
    ∙ sym (fold-append w s (row ++ user) parameters)
    ∙ ap (λ (k : StartKeyOf). fold w s (key_hashed k)) c.self.view_is
