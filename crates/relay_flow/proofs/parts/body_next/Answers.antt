use Rattle.std.proofs.Common.{arith}
use Rattle.relay_flow.proofs.Parting.{body_goes}
use Rattle.relay_flow.proofs.parts.body_next.Goals as goal

pub returns-clause-goes_on : goal.returns-clause-goes_on
returns-clause-goes_on c = body_goes c.args.side c.args.limit c.args.part.now c.args.kind c.args.rest c.min-count.result (omega (arith, c.min-count.ensures)) (omega (arith, c.min-count.ensures)) c.is_foreign_in_parts.result c.is_foreign_in_parts.ensures (omega (arith, c.if-count-eq0.false)) c.requires
