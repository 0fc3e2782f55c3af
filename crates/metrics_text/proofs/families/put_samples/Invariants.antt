use Rattle.std.proofs.Common.{◌≡◌, ◌++◌, drop}
use Rattle.std.specs.List.{flat_map}
use Rattle.metrics_text.specs.Families.{sample}
use Rattle.metrics_text.specs.Views.{column_view}
use Rattle.metrics_text.proofs.families.put_samples.Given as goal

abbrev pub invariant-loop-row : goal.invariant-loop-row
invariant-loop-row l = l.text.items ++ flat_map (sample (column_view l.column) l.place) (drop l.row-index l.rows) ≡ l.fn.text.items ++ flat_map (sample (column_view l.column) l.place) l.rows
