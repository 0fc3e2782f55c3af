use Rattle.std.proofs.Common.{◌≡◌}
use Rattle.std.specs.Prelude.{Some, option_copied}
use Rattle.ini_config.specs.Hosts.{IsShort}
use Rattle.ini_config.specs.DatabaseValues.{values_of, with_texts, values_in}
use Rattle.ini_config.proofs.database_values.items_of.Given as goal

abbrev pub invariant-loop-item : goal.invariant-loop-item
invariant-loop-item l = (with_texts (Some (values_of l.items)) l.item-iterator ≡ values_in l.fn.value) × IsShort (option_copied l.items.host)
