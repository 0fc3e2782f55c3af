use Rattle.std.proofs.Common.{◌≡◌, ◌&&◌, ◌||◌, sym, ap, ◌∙◌, bytes_eq}
use Rattle.std.specs.List.{list_any}
use Rattle.neutral_keys.specs.ReadOver.{is_read_over, has_name, has_pair, at_any_value, at_one_value}
use Rattle.neutral_keys.proofs.is_read_over.Goals as goal

pub returns-then-has_name : goal.returns-then-has_name
unfolding is_read_over at_any_value
returns-then-has_name c =
    let name = c.args.name.now in
    let others = has_pair at_one_value name c.args.value.now in
    let named : c.has_name.result ≡ has_name at_any_value name = c.has_name.ensures ∙ ap (list_any (λ k. bytes_eq k.now name)) c.as_slice.ensures in
    c.if-has_name.true ∙ sym (ap (λ b. b || others) (sym named ∙ c.if-has_name.true))

pub returns-else-has_name : goal.returns-else-has_name
unfolding is_read_over at_any_value at_one_value
returns-else-has_name c =
    let name = c.args.name.now in
    let value = c.args.value.now in
    let others = has_pair at_one_value name value in
    let named : c.has_name.result ≡ has_name at_any_value name = c.has_name.ensures ∙ ap (list_any (λ k. bytes_eq k.now name)) c.as_slice.ensures in
    let paired : c.has_pair.result ≡ others =
    c.has_pair.ensures ∙ ap (list_any (λ e. bytes_eq e.0.now name && bytes_eq e.1.now value)) c.as_slice-else-has_name.ensures in
    paired ∙ sym (ap (λ b. b || others) (sym named ∙ c.if-has_name.false))
