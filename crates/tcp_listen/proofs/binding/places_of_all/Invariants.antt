use Rattle.std.specs.Prelude.{All}
use Rattle.tcp_listen.specs.Listening.{IsListenedAt}
use Rattle.tcp_listen.proofs.binding.places_of_all.Given as goal

abbrev pub invariant-loop-name : goal.invariant-loop-name
invariant-loop-name g l = All (IsListenedAt l.fn.names l.fn.port) l.places.items
