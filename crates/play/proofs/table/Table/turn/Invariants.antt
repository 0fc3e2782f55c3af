use Rattle.std.proofs.Common.{◌≡◌}
use Rattle.play.proofs.table.Table.turn.Given as goal

abbrev pub invariant-loop-at : goal.invariant-loop-at
invariant-loop-at l = l.self ≡ l.initial.self
