use Rattle.std.proofs.Common.{◌≡◌, map, take}
use Rattle.monitor_core.specs.Tables.{pair}
use Rattle.monitor_core.proofs.tables.pairs.Given as goal

abbrev pub invariant-loop-key : goal.invariant-loop-key
invariant-loop-key l = l.rows.items ≡ map (λ p. pair p.0.now p.1.now) (take l.key-index l.texts)
