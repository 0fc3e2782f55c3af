use Rattle.std.proofs.Common.{refl}
use Rattle.memory_ends.proofs.Serving.{takes_frame, waits_frame}
use Rattle.memory_ends.proofs.dialogue.Host.take_frame.Goals as goal

pub returns-in_default : goal.returns-in_default
returns-in_default c = (refl, waits_frame _ _ c.next_frame.result c.as_slice-held.result.now _ _ _ c.as_slice-held.ensures c.in_default.not-Whole c.next_frame.ensures.tells)

pub returns : goal.returns
returns c = takes_frame _ _ _ _ c.strikes-struck.result c.in-Whole.frame c.as_slice-held.result.now _ _ _ _ _ _ c.deref.ensures c.are_bytes.ensures c.as_slice-held.ensures c.in-Whole.ensures.tells c.strikes-struck.ensures c.in_ok-push.ensures.items c.in_ok-answer.ensures.ok c.advance.ensures.items
