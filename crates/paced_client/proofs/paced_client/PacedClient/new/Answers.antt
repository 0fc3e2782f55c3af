use Rattle.paced_client.proofs.Pacing.{starts}
use Rattle.paced_client.proofs.paced_client.PacedClient.new.Goals as goal

pub invariant_of-result : goal.invariant_of-result
invariant_of-result c = starts c.args.input.now _ _ _ c.args.cut c.requires c.are_bytes.ensures c.in_ok-copy_from_slice.ensures c.in_ok-pauses.ensures c.new.ensures.items
