use Rattle.std.proofs.Common.{arith}
use Rattle.std.proofs.lemmas.Grind.{common_steps}
use Rattle.tcp_reach.proofs.Among.{sent_more}
use Rattle.tcp_reach.proofs.message.send_to_each.Goals as goal

pub loop-place-preserved : goal.loop-place-preserved
loop-place-preserved g c =
    sent_more c.args.hosts.now c.args.port c.args.message.now c.in_ok-places_of.field-0.items c.as_slice-place-items.result.now c.loop-place.place-index c.place-item.result c.loop-place.all.items c.push.new.self.items c.in-Ok.sent c.in_ok-places_of.ensures c.as_slice-place-items.ensures.value (grind (arith, common_steps)) c.place-item.is c.in-Ok.ensures c.loop-place.invariant c.in_ok-push.ensures.items
