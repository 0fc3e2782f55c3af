use Rattle.std.proofs.Common.{◌∙◌}
use Rattle.paced_client.proofs.Pacing.{hears_more, keeps}
use Rattle.paced_client.proofs.paced_client.PacedClient.keep.Goals as goal

pub hear-requires : goal.hear-requires
hear-requires c = hears_more _ _ _ _ c.args.bytes.now _ _ _ c.self.invariant (c.as_slice.ensures ∙ c.in_ok-extend_from_slice.ensures.ok)

pub invariant_of-self-2 : goal.invariant_of-self-2
invariant_of-self-2 c = keeps _ _ _ _ _ c.args.bytes.now _ _ _ _ c.self.invariant c.in_ok-extend_from_slice.ensures.ok c.as_slice.ensures c.hear.ensures
