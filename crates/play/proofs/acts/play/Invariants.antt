use Rattle.std.proofs.Common.{◌≡◌}
use Rattle.play.proofs.acts.play.Given as goal

abbrev pub invariant-loop-act : goal.invariant-loop-act
invariant-loop-act l = l.table ≡ l.initial.table
