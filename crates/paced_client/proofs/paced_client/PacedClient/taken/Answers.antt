use Rattle.std.proofs.Common.{sym, ap, arith, length, length-take-le}
use Rattle.paced_client.proofs.Pacing.{taken_within}
use Rattle.paced_client.proofs.paced_client.PacedClient.taken.Goals as goal

pub slice_bounds-result-end : goal.slice_bounds-result-end
slice_bounds-result-end c = sym (length-take-le c.self.inside.at c.as_slice.result.now (omega (arith, taken_within _ _ _ _ _ _ c.self.invariant, ap length c.as_slice.ensures)))
