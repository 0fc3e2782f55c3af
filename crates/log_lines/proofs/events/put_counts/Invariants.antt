use Rattle.std.proofs.Common.{◌≡◌, ◌++◌, drop}
use Rattle.std.specs.List.{flat_map}
use Rattle.log_lines.specs.Events.{counted_view}
use Rattle.log_lines.proofs.events.put_counts.Given as goal

abbrev pub invariant-loop-n : goal.invariant-loop-n
invariant-loop-n l = l.line.items ++ flat_map counted_view (drop l.n-index l.counts) ≡ l.fn.line.items ++ flat_map counted_view l.counts
