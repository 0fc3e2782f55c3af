use Rattle.std.proofs.Common.{length}
use Rattle.replay_run.proofs.replay.+put_login.Given as goal

abbrev pub decreases-put_login : goal.decreases-put_login
decreases-put_login l = length l.bytes.now
