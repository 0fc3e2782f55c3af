use Rattle.std.proofs.Common.{◌≡◌}
use Rattle.play.proofs.table.Table.serve.Given as goal

abbrev pub invariant-loop : goal.invariant-loop
invariant-loop l = l.self ≡ l.initial.self
