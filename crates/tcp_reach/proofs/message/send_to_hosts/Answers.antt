use Rattle.tcp_reach.proofs.Among.{sent_once}
use Rattle.tcp_reach.proofs.message.send_to_hosts.Goals as goal

pub returns-clause-own : goal.returns-clause-own
returns-clause-own g c =
    sent_once c.args.hosts.now c.args.port c.args.message.now c.in-Some.place c.in_ok-sent.sent c.new-all.result.items c.push.new.self.items c.in-Some.ensures.own c.in_ok-sent.ensures c.new-all.ensures.items c.in_ok-push.ensures.items
