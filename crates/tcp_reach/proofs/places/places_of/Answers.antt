use Rattle.std.proofs.Common.{◌∙◌}
use Rattle.tcp_reach.proofs.Among.{begin, skip, add}
use Rattle.tcp_reach.proofs.places.places_of.Goals as goal

pub loop-one-init : goal.loop-one-init
loop-one-init g c = begin c.args.host.now c.args.port c.new-places.result.items c.into_iter-one-iterator.result c.new-places.ensures.items (c.into_iter-one-iterator.ensures.into_iter_gives ∙ c.split_str-one-items.ensures.value)

pub loop-one-preserved-in-Ok : goal.loop-one-preserved-in-Ok
loop-one-preserved-in-Ok g c =
    add c.args.host.now c.args.port c.loop-one.places.items c.append.new.self.items c.in-Ok.found.items c.loop-one.one-iterator c.next.new.self c.in-Some.one.now c.loop-one.invariant c.in-Some.ensures.steps c.in-Ok.ensures c.in_ok-append-in-Ok.ensures.items

pub loop-one-preserved : goal.loop-one-preserved
loop-one-preserved g c = skip c.args.host.now c.args.port c.loop-one.places.items c.loop-one.one-iterator c.next.new.self c.in-Some.one.now c.loop-one.invariant c.in-Some.ensures.steps
