use Rattle.std.proofs.Common.{◌≡◌}
use Rattle.std.specs.List.{find}
use Rattle.settings_check.specs.Words.{is_bad_item, bad_item_in}
use Rattle.settings_check.proofs.words.bad_item_in.Given as goal

abbrev pub invariant-loop-item : goal.invariant-loop-item
invariant-loop-item l = find is_bad_item l.item-iterator ≡ bad_item_in l.fn.value
