use Rattle.std.proofs.Common.{◌≡◌, map, take}
use Rattle.monitor_core.specs.Tables.{named}
use Rattle.monitor_core.proofs.tables.named_rows.Given as goal

abbrev pub invariant-loop-name : goal.invariant-loop-name
invariant-loop-name l = l.rows.items ≡ map (λ p. named p.0.now p.1) (take l.name-index l.numbers)
