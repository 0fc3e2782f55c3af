use Rattle.std.proofs.Common.{sym, ◌∙◌}
use Rattle.relay_flow.proofs.Parting.{heads, whole_goes, part_goes}
use Rattle.relay_flow.proofs.parts.head_next.Goals as goal

pub returns-then-end-part : goal.returns-then-end-part
returns-then-end-part c = whole_goes c.args.side c.args.limit c.args.part.now c.args.kind c.head_in-head.result.kind c.head_in-head.result.length c.status_of.result c.is_foreign.result (heads c.args.part.now _ _ c.if-part-lt-HEAD.false c.head_in-head.ensures.kind c.head_in-head.ensures.length) c.are_bytes.ensures (sym c.head_fault.ensures ∙ c.in_default.is) c.if-end-part.true c.status_of.ensures c.is_foreign.ensures

pub returns : goal.returns
returns c = part_goes c.args.side c.args.limit c.args.part.now c.args.kind c.head_in-head.result.kind c.head_in-head.result.length (heads c.args.part.now _ _ c.if-part-lt-HEAD.false c.head_in-head.ensures.kind c.head_in-head.ensures.length) c.are_bytes.ensures (sym c.head_fault.ensures ∙ c.in_default.is) c.if-end-part.false (sym c.goes_on_whole.ensures ∙ c.if-goes_on_whole.false)
