use Rattle.std.proofs.Common.{arith, rules}
use Rattle.std.proofs.lemmas.Grind.{common_steps}
use Rattle.tcp_listen.specs.Listening.{IsListenedAt}
use Rattle.tcp_listen.proofs.Named.{at_one_more}
use Rattle.tcp_listen.proofs.binding.listen_at.Goals as goal

pub loop-place-preserved : goal.loop-place-preserved
loop-place-preserved g c =
    at_one_more (IsListenedAt c.args.names.now c.args.port) c.in_ok-places.places.items c.as_slice-2.result.now c.in_ok-in_order.field-0.items c.as_slice-place-items.result.now c.loop-place.listeners.items c.push.new.self.items c.loop-place.place-index c.place-item.result c.in-Some.listener c.in_ok-places.ensures c.as_slice-2.ensures.value c.in_ok-in_order.ensures c.as_slice-place-items.ensures.value (grind (arith, common_steps)) c.place-item.is (search rules) c.loop-place.invariant c.in_ok-push.ensures.items
