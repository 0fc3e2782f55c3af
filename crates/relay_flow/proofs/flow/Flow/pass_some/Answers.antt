use Rattle.std.proofs.Common.{arith}
use Rattle.relay_flow.proofs.Passing.{passes_by}
use Rattle.relay_flow.proofs.flow.Flow.pass_some.Goals as goal

pub returns-in-Goes : goal.returns-in-Goes
returns-in-Goes c = passes_by c.args.self.now c.self.inside.bytes.items c.self.inside.start c.self.inside.pass c.self.inside.fill c.self.inside.kind c.self.inside.rest c.self.inside.side c.self.inside.limit c.self.inside.ends c.in-Goes.next c.self.view_is (omega arith) (omega arith) (omega arith) c.in-Goes.ensures.ahead.1 c.in-Goes.ensures.bytes c.in-Goes.ensures.ahead.0
