use Rattle.replay_run.specs.Replay.{standing_word}
use Rattle.replay_run.proofs.Replaying.{by_session}
use Rattle.replay_run.proofs.replay.answered_by_session.Goals as goal

pub returns : goal.returns
returns c = by_session _ _ _ _ _ standing_word _ _ _ c.deref.ensures c.new-out.ensures.items c.in_ok-solo_bytes.ensures.ok
