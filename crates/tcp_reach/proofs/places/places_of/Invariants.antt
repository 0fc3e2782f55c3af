use Rattle.tcp_reach.proofs.Among.{AreOwn}
use Rattle.tcp_reach.proofs.places.places_of.Given as goal

abbrev pub invariant-loop-one : goal.invariant-loop-one
invariant-loop-one g l = AreOwn l.fn.host l.fn.port l.places.items l.one-iterator
