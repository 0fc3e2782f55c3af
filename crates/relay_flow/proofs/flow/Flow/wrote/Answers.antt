use Rattle.std.proofs.Common.{ap, arith}
use Rattle.relay_flow.specs.Flows.{FlowView}
use Rattle.relay_flow.proofs.flow.Flow.wrote.Goals as goal
use Rattle.relay_flow.proofs.Passing.{wrote_held}

pub returns-clause-held : goal.returns-clause-held
returns-clause-held c = wrote_held _ c.self.inside.bytes.items c.self.inside.start c.self.inside.pass c.args.count (ap (λ (v : FlowView). v.held) c.self.view_is) (omega arith) c.requires
