use Rattle.std.specs.Prelude.{All}
use Rattle.tcp_reach.specs.Places.{IsPlaceAt}
use Rattle.tcp_reach.proofs.places.places_at.Given as goal

abbrev pub invariant-loop-address : goal.invariant-loop-address
invariant-loop-address g l = All (IsPlaceAt l.fn.host l.fn.port) l.places.items
