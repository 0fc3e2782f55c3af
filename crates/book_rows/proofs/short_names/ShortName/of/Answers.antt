use Rattle.std.proofs.Common.{ap, ap₂, ◌∙◌, List, ℕ, ◌++◌, length}
use Rattle.session_values.specs.State.{StartKeyOf}
use Rattle.book_rows.proofs.ShortNames.{both_written}
use Rattle.book_rows.proofs.short_names.ShortName.of.Goals as goal

pub returns : goal.returns
returns c = (
  ap length (c.as_slice-row.ensures ∙ ap (λ (k : StartKeyOf). k.row) c.key.view_is),
  both_written c.as_slice-row.result.now c.as_slice-user.result.now c.copy_from_slice.new.self c.copy_from_slice-2.new.self _ _ c.copy_from_slice.ensures.after c.copy_from_slice-2.ensures.after
      ∙ ap₂ (λ (l m : List ℕ). l ++ m) (c.as_slice-row.ensures ∙ ap (λ (k : StartKeyOf). k.row) c.key.view_is) (c.as_slice-user.ensures ∙ ap (λ (k : StartKeyOf). k.user) c.key.view_is),
)
