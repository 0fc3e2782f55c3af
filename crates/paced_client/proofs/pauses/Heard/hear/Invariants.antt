use Rattle.std.proofs.Common.{◌-◌, length}
use Rattle.paced_client.specs.Hearing.{IsHearing}
use Rattle.paced_client.proofs.pauses.Heard.hear.Given as goal

abbrev pub invariant-frames : goal.invariant-frames
invariant-frames l = IsHearing l.self l.given

abbrev pub decreases-frames : goal.decreases-frames
decreases-frames l = length l.given - l.self.end
