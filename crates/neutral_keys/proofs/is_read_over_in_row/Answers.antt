use Rattle.std.proofs.Common.{◌&&◌, ap, ◌∙◌, bytes_eq}
use Rattle.std.specs.List.{list_any}
use Rattle.neutral_keys.specs.ReadOver.{is_read_over_in_row, at_one_value_in_row}
use Rattle.neutral_keys.proofs.is_read_over_in_row.Goals as goal

pub returns : goal.returns
unfolding is_read_over_in_row at_one_value_in_row
returns c =
    c.has_pair.ensures
    ∙ ap (list_any (λ e. bytes_eq e.0.now c.args.name.now && bytes_eq e.1.now c.args.value.now)) c.as_slice.ensures
