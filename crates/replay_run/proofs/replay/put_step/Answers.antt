use Rattle.std.specs.Arc.{arc_value}
use Rattle.replay_run.proofs.Replaying.{refusal_given, refusal_wants}
use Rattle.replay_run.proofs.replay.put_step.Goals as goal

pub returns-in-Refused : goal.returns-in-Refused
returns-in-Refused c = record {
  given = refusal_given c.args.service.now.dies_after (arc_value c.args.service.now.catalogue) _ _ c.args.rest.now _ _ _ c.in-Refused.is c.put_refusal.ensures.given;
  memory = refusal_wants _ _ _ c.in-Refused.is c.put_refusal.ensures.memory;
}
