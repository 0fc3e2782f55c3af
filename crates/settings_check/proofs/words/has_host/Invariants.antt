use Rattle.std.proofs.Common.{◌≡◌}
use Rattle.std.specs.Prelude.{nat_eq, codes}
use Rattle.std.specs.List.{list_any, starts_with}
use Rattle.settings_check.specs.Words.{has_host}
use Rattle.settings_check.proofs.words.has_host.Given as goal

abbrev pub invariant-loop-item : goal.invariant-loop-item
invariant-loop-item l = list_any (λ item. starts_with nat_eq item (codes "host=")) l.item-iterator ≡ has_host l.fn.value
