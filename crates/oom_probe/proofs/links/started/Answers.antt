use Rattle.std.specs.Arc.{arc_value}
use Rattle.oom_probe.proofs.links.started.Goals as goal

pub start_link-requires-clause-can_start : goal.start_link-requires-clause-can_start
start_link-requires-clause-can_start g c = c.requires c.new-credential.result (arc_value c.in_ok-key.key).user
