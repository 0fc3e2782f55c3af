use Rattle.stub_server.proofs.Connecting.{ended_by, front_so_far, says_first}
use Rattle.stub_server.proofs.connection.serve_client.Goals as goal

pub returns-in-Ends : goal.returns-in-Ends
returns-in-Ends g c = ended_by _ _ _ _ c.turn.result c.in-Ends.ending _ c.in-Ends.is c.turn.ensures c.loop.invariant

pub returns : goal.returns
returns g c = front_so_far _ _ _ c.loop.invariant

pub loop-init : goal.loop-init
loop-init g c = says_first _ _ _ c.new-talk.ensures c.requires
