use Rattle.std.proofs.Common.{sym, ap, ◌∙◌, List, ℕ}
use Rattle.std.specs.List.{slice_range}
use Rattle.relay_flow.specs.Flows.{FlowView}
use Rattle.relay_flow.proofs.Passing.{last_in}
use Rattle.relay_flow.proofs.flow.Flow.next_head.Goals as goal

pub returns-then-is_last : goal.returns-then-is_last
returns-then-is_last c = last_in c.args.self.now _ _ _ _ _ (ap (λ (v : FlowView). v.side) (sym c.self.view_is)) (ap (λ (v : FlowView). v.limit) (sym c.self.view_is)) (ap (λ (v : FlowView). v.part) (sym c.self.view_is) ∙ ap (λ (xs : List ℕ). slice_range xs c.self.inside.pass c.self.inside.fill) (sym c.deref.ensures.value)) c.requires c.in-Ok-Some.field-0 c.in-Ok-Some.field-0-is c.in-Ok-Some.ensures (sym c.is_last.ensures ∙ c.if-is_last.true)
