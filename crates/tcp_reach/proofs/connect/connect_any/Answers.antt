use Rattle.std.proofs.Common.{arith}
use Rattle.std.proofs.lemmas.Grind.{common_steps}
use Rattle.tcp_reach.proofs.Among.{leads}
use Rattle.tcp_reach.proofs.connect.connect_any.Goals as goal

pub returns-in-Ok : goal.returns-in-Ok
returns-in-Ok g c = leads c.args.places.now _ c.index-places-at.result c.in-Ok.stream (grind (arith, common_steps)) c.index-places-at.is c.in-Ok.ensures
