use Rattle.std.proofs.Common.{◌≡◌}
use Rattle.tcp_reach.proofs.message.wait_for_close.Given as goal

abbrev pub invariant-loop : goal.invariant-loop
invariant-loop g l = l.stream ≡ l.fn.stream
