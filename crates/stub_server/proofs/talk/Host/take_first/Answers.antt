use Rattle.std.proofs.Common.{◌-◌, Some, None, sym, subst}
use Rattle.stub_server.specs.declared.talk.Stage.{Stage}
use Rattle.stub_server.specs.declared.talk.Stage.TheVariants.{Waits}
use Rattle.stub_server.specs.declared.talk.Took.TheVariants.{Packet, End}
use Rattle.stub_server.specs.Talks.{Takes, talk_of}
use Rattle.stub_server.proofs.Talking.{takes_start, takes_request, cancel_ends, fault_ends}
use Rattle.stub_server.proofs.talk.Host.take_first.Goals as goal

pub returns-in_ok-stage-in-Startup : goal.returns-in_ok-stage-in-Startup
returns-in_ok-stage-in-Startup c =
    subst (λ (x : Stage). Takes Packet (talk_of c.args.self.now x c.args.inbox.now.items c.args.outbox.now.items) (talk_of c.args.self.now c.in_ok-stage-in-Startup.field-0 c.advance.new.self.items c.open.new.out.items)) (sym c.requires.stage)
    (takes_start c.first_grows.ensures c.args.self.now c.args.left c.in-Startup.start c.as_slice-held.result.now _ _ _ _ _ c.requires.some c.are_bytes.ensures c.as_slice-held.ensures c.in-Startup.ensures.tells c.in_ok-stage-in-Startup.ensures c.advance.ensures.items)

pub returns-in_ok-put_u8-in-Tls : goal.returns-in_ok-put_u8-in-Tls
returns-in_ok-put_u8-in-Tls c =
    subst (λ (x : Stage). Takes Packet (talk_of c.args.self.now x c.args.inbox.now.items c.args.outbox.now.items) (talk_of c.args.self.now (Waits (c.args.left - 1)) c.advance-in-Tls.new.self.items c.put_u8.new.self.items)) (sym c.requires.stage)
    (takes_request c.first_grows.ensures c.first_read_is_spelled.ensures c.args.self.now c.args.left c.first_packet.result c.as_slice-held.result.now _ _ _ _ c.in-Tls.is c.requires.some c.are_bytes.ensures c.as_slice-held.ensures
    c.first_packet.ensures.tells c.in_ok-put_u8-in-Tls.ensures.ok c.advance-in-Tls.ensures.items)

pub returns-in-Cancel : goal.returns-in-Cancel
returns-in-Cancel c =
    subst (λ (x : Stage). Takes (End (Some (record { pid = c.in-Cancel.pid; secret = c.in-Cancel.secret }))) (talk_of c.args.self.now x c.args.inbox.now.items c.args.outbox.now.items) (talk_of c.args.self.now x c.args.inbox.now.items c.args.outbox.now.items)) (sym c.requires.stage)
    (cancel_ends c.first_grows.ensures c.args.self.now c.args.left _ _ c.as_slice-held.result.now _ _ c.requires.some c.as_slice-held.ensures c.in-Cancel.ensures.tells)

pub returns-in-Bad : goal.returns-in-Bad
returns-in-Bad c =
    subst (λ (x : Stage). Takes (End None) (talk_of c.args.self.now x c.args.inbox.now.items c.args.outbox.now.items) (talk_of c.args.self.now x c.args.inbox.now.items c.args.outbox.now.items)) (sym c.requires.stage)
    (fault_ends c.first_grows.ensures c.args.self.now c.args.left _ c.as_slice-held.result.now _ _ c.requires.some c.as_slice-held.ensures c.in-Bad.ensures.tells)
