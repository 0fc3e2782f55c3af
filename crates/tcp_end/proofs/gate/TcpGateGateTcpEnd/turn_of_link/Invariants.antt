use Rattle.std.proofs.Common.{◌≡◌}
use Rattle.tcp_end.proofs.gate.TcpGateGateTcpEnd.turn_of_link.Given as goal

abbrev pub invariant-loop : goal.invariant-loop
invariant-loop g l = l.self.turns ≡ l.initial.self.turns
