use Rattle.memory_ends.proofs.Serving.{takes_answer}
use Rattle.memory_ends.proofs.dialogue.Host.take_answer.Goals as goal

pub returns : goal.returns
returns c = takes_answer _ _ _ c.in-Whole.frame c.as_slice-held.result.now _ _ _ _ _ _ _ c.are_bytes.ensures c.as_slice-held.ensures c.in-Whole.ensures.tells c.in_ok-next.ensures c.in_ok-push.ensures.items c.advance.ensures.items
