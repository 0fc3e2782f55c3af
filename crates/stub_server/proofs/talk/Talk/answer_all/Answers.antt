use Rattle.stub_server.proofs.Talking.{goes_on, is_done}
use Rattle.stub_server.proofs.talk.Talk.answer_all.Goals as goal

pub packets-preserved : goal.packets-preserved
packets-preserved c = goes_on _ _ _ _ c.if-branch.true c.packets.invariant c.in_ok-take_one.ensures

pub returns : goal.returns
returns c = is_done _ _ _ _ c.if-branch.false c.packets.invariant c.in_ok-take_one.ensures
