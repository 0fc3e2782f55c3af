use Rattle.std.specs.Arc.{arc_value}
use Rattle.memory_lease.proofs.Answering.{can_start, given_answered, unstarted}
use Rattle.memory_lease.proofs.Ending.{unended}
use Rattle.memory_lease.proofs.Unstarted.{unserved}
use Rattle.memory_lease.specs.declared.alone.TheConstants.{START_TURNS}
use Rattle.memory_lease.proofs.alone.serve_alone.Goals as goal

pub start_link-requires-clause-can_start : goal.start_link-requires-clause-can_start
start_link-requires-clause-can_start c = can_start c.args.credential.now (arc_value c.args.key).user c.args.server.left c.args.server.standing c.new-server.result c.new-server.ensures c.requires.startable

pub returns-in-Err-clause-answer : goal.returns-in-Err-clause-answer
returns-in-Err-clause-answer c = unstarted c.args.server.left c.args.server.standing c.new-server.result c.in-Err.fault.end c.args.credential.now (arc_value c.args.key) c.args.word c.args.limit START_TURNS c.args.bytes.now _ _ _ c.new-server.ensures c.requires.follows c.requires.let_in c.in-Err.ensures.cause
    c.in-Err.ensures.turns c.in-Err.ensures.late c.new-out.ensures.items c.in_ok-put_unstarted-in-Err.ensures.told

pub returns-then-branch-clause-answer : goal.returns-then-branch-clause-answer
returns-then-branch-clause-answer c = given_answered c.args.server.left c.args.server.standing c.new-server.result c.args.credential.now (arc_value c.args.key) c.args.word c.args.bytes.now c.in_ok-out.out.items _ c.pump_to_end-ending.result c.is_clear-clear.result c.in-Ok.link c.args.limit c.in_ok-relay.relay
    c.pump_to_end-ending.new.relay c.new-client.result _ _ c.new-server.ensures c.requires.follows c.requires.spared c.in-Ok.ensures.started c.in-Ok.ensures.key c.are_bytes.ensures c.new-client.ensures c.in_ok-relay.ensures.begun c.pump_to_end-ending.ensures.keeps
    (record { facts = c.close-client.ensures.client; given = c.in_ok-out.ensures.given; faults = c.in_ok-out.ensures.faults; all = c.in_ok-out.ensures.all }) (c.end_of-server.ensures _ c.close-client.ensures.link) c.is_clear-clear.ensures c.pump_to_end-ending.ensures.ending
    (c.in_ok-put_ending.ensures.told c.if-branch.true)

pub returns-clause-unserved : goal.returns-clause-unserved
returns-clause-unserved c = unended c.args.server.left c.args.server.standing c.new-server.result c.args.credential.now (arc_value c.args.key) c.args.word c.args.bytes.now c.in_ok-out.out.items c.in-Ok.link c.args.limit c.in_ok-relay.relay
    c.pump_to_end-ending.new.relay c.new-client.result _ c.end_of-server.result c.into_server.result c.new-server.ensures c.requires.follows c.requires.spared c.in-Ok.ensures.started c.in-Ok.ensures.key c.are_bytes.ensures c.new-client.ensures c.in_ok-relay.ensures.begun c.pump_to_end-ending.ensures.keeps
    (record { facts = c.close-client.ensures.client; given = c.in_ok-out.ensures.given; faults = c.in_ok-out.ensures.faults; all = c.in_ok-out.ensures.all }) (c.end_of-server.ensures _ c.close-client.ensures.link) c.into_server.ensures (c.in_ok-put_ending.ensures.unended c.if-branch.false)
