use Rattle.std.proofs.Common.{arith}
use Rattle.std.proofs.lemmas.Grind.{common_steps}
use Rattle.tcp_listen.proofs.Named.{one_more}
use Rattle.tcp_listen.proofs.binding.those.Goals as goal

pub loop-place-preserved : goal.loop-place-preserved
loop-place-preserved c =
    one_more c.args.places.now c.loop-place.found.items c.push.new.self.items c.loop-place.place-index c.place-item.result (grind (arith, common_steps)) c.place-item.is c.loop-place.invariant c.in_ok-push.ensures.items
