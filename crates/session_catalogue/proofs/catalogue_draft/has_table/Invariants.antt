use Rattle.std.proofs.Common.{◌≡◌, drop, map}
use Rattle.std.specs.Arc.{arc_value}
use Rattle.session_values.specs.State.{has_text, table_name}
use Rattle.session_catalogue.proofs.catalogue_draft.has_table.Given as goal

abbrev pub invariant-loop-table : goal.invariant-loop-table
invariant-loop-table l = has_text (map table_name (map arc_value (drop l.table-index l.tables))) l.name ≡ has_text (map table_name (map arc_value l.tables)) l.name
