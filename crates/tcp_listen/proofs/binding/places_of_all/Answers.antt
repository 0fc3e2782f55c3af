use Rattle.std.proofs.Common.{arith}
use Rattle.std.proofs.lemmas.Grind.{common_steps}
use Rattle.tcp_listen.proofs.Named.{of_name}
use Rattle.tcp_listen.proofs.binding.places_of_all.Goals as goal

pub loop-name-preserved : goal.loop-name-preserved
loop-name-preserved g c =
    of_name c.args.names.now c.args.port c.loop-name.name-index c.name-item.result c.as_bytes.result.now c.loop-name.places.items c.append.new.self.items c.in_ok-found.found.items (grind (arith, common_steps)) c.name-item.is c.as_bytes.ensures c.loop-name.invariant c.in_ok-found.ensures c.in_ok-append.ensures.items
