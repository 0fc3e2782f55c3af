use Rattle.std.proofs.Common.{◌≡◌, ◌++◌, drop, map}
use Rattle.std.specs.List.{enumerate_from, flat_map}
use Rattle.metrics_text.specs.Families.{family}
use Rattle.metrics_text.specs.Views.{column_view}
use Rattle.metrics_text.proofs.families.put_table.Given as goal

abbrev pub invariant-loop-place : goal.invariant-loop-place
invariant-loop-place l = l.text.items ++ flat_map (family l.rows) (enumerate_from l.place (map column_view (drop l.place l.columns))) ≡ l.fn.text.items ++ flat_map (family l.rows) (enumerate_from 0 (map column_view l.columns))
