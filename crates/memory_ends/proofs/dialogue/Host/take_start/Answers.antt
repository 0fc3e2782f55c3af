use Rattle.memory_ends.proofs.Serving.{takes_start}
use Rattle.memory_ends.proofs.dialogue.Host.take_start.Goals as goal

pub returns : goal.returns
returns c = takes_start _ _ c.in-Startup.start c.as_slice-held.result.now _ _ _ _ _ c.are_bytes.ensures c.as_slice-held.ensures c.in-Startup.ensures.tells c.in_ok-next.ensures c.advance.ensures.items
