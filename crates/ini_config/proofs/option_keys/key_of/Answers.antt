use Rattle.std.proofs.Common.{◌≡◌, sym, ap, ◌∙◌, false, bytes_eq}
use Rattle.std.specs.Prelude.{Some, if◌then◌else◌}
use Rattle.std.specs.List.{find}
use Rattle.neutral_keys.specs.ReadOver.{is_read_over}
use Rattle.ini_config.specs.OptionValues.{key_of, served}
use Rattle.ini_config.specs.declared.option_keys.Key.TheVariants as key
use Rattle.ini_config.proofs.Keys.{find-texts, key_at, texts_of}
use Rattle.ini_config.proofs.option_keys.key_of.Goals as goal

pub returns : goal.returns
unfolding key_of
returns c =
    let name = c.args.name.now in
    let found = key_at (find (λ e. bytes_eq e.0 name) served) in
    let used : is_read_over name c.args.value.now ≡ false = sym c.is_read_over.ensures ∙ c.if-is_read_over.false in
    c.find_key.ensures ∙ find-texts name c.as_slice.result.now
    ∙ ap (λ t. key_at (find (λ e. bytes_eq e.0 name) (texts_of t))) c.as_slice.ensures
    ∙ sym (ap (λ b. if b then Some key.Unused else found) used)
