use Rattle.std.specs.Prelude.{All, Contains}
use Rattle.tcp_listen.proofs.binding.those.Given as goal

abbrev pub invariant-loop-place : goal.invariant-loop-place
invariant-loop-place l = All (Contains l.fn.places) l.found.items
