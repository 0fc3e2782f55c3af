use Rattle.std.specs.Prelude.{All}
use Rattle.tcp_reach.specs.Streams.{IsSentTo}
use Rattle.tcp_reach.proofs.message.send_to_each.Given as goal

abbrev pub invariant-loop-place : goal.invariant-loop-place
invariant-loop-place g l = All (IsSentTo l.fn.hosts l.fn.port l.fn.message) l.all.items
