use Rattle.std.specs.Prelude.{All}
use Rattle.tcp_listen.specs.Listening.{IsListenedAt}
use Rattle.tcp_listen.proofs.binding.listen_at.Given as goal

abbrev pub invariant-loop-place : goal.invariant-loop-place
invariant-loop-place g l = All (IsListenedAt l.fn.names l.fn.port) l.listeners.items
