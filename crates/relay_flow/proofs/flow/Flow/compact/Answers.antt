use Rattle.std.proofs.Common.{ap, arith}
use Rattle.relay_flow.specs.Flows.{FlowView}
use Rattle.relay_flow.proofs.flow.Flow.compact.Goals as goal
use Rattle.relay_flow.proofs.Passing.{compacted}

pub returns-clause-part : goal.returns-clause-part
returns-clause-part c = compacted _ c.self.inside.bytes.items _ c.self.inside.start c.self.inside.pass c.self.inside.fill c.copy_within.ensures.items (omega arith) (omega arith) (omega arith) (ap (λ (v : FlowView). v.part) c.self.view_is)
