use Rattle.stub_server.proofs.Talking.{takes_frame_here, frame_waits, frame_ends}
use Rattle.stub_server.proofs.talk.Host.take_frame.Goals as goal

pub returns-in_ok-answer-in-Whole : goal.returns-in_ok-answer-in-Whole
returns-in_ok-answer-in-Whole c = takes_frame_here c.futures_stay.ensures c.args.self.now _ _ _ c.strikes-struck.result c.in-Whole.frame _ c.as_slice-held.result.now _ _ _ _ c.after_frame-took.ensures c.deref.ensures c.are_bytes.ensures c.as_slice-held.ensures c.in-Whole.ensures.tells c.strikes-struck.ensures c.in_ok-answer-in-Whole.ensures.ok c.advance.ensures.items

pub returns-in-Need : goal.returns-in-Need
returns-in-Need c = frame_waits c.args.self.now _ _ c.as_slice-held.result.now _ _ c.as_slice-held.ensures c.in-Need.ensures.tells

pub returns-in-Bad : goal.returns-in-Bad
returns-in-Bad c = frame_ends c.front_grows.ensures c.args.self.now _ _ c.as_slice-held.result.now _ _ c.as_slice-held.ensures c.in-Bad.ensures.tells
