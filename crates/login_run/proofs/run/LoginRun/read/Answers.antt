use Rattle.std.proofs.Common.{arith}
use Rattle.login_core.specs.Logins.{missing}
use Rattle.login_run.proofs.Running.{all_used, read_some, read_idle, read_last}
use Rattle.login_run.proofs.run.LoginRun.read.Goals as goal

pub invariant_of-self-in-Count-7 : goal.invariant_of-self-in-Count-7
invariant_of-self-in-Count-7 g c = read_some c.steps_tell.ensures c.steps_say.ensures _ _ _ _ _ _ _ _ _ _ _ c.on_bytes-step.result.1 _ _ c.self.view_is c.requires.talking c.requires.given c.after.ensures.phase c.after.ensures.said (all_used c.on_bytes-step.result.0 c.in-Count.count (missing c.self.inside.login.awaiting c.self.inside.login.held) _ c.on_bytes-step.ensures.used (omega (arith, c.in-Count.ensures.within.1, c.min-wanted.ensures, c.wants.ensures))) c.in-Count.ensures.reads c.on_bytes-step.ensures.means c.on_bytes-step.ensures.reveals c.self.invariant

pub invariant_of-self-in-NotNow : goal.invariant_of-self-in-NotNow
invariant_of-self-in-NotNow g c = read_idle _ _ _ _ _ _ _ _ c.self.view_is c.requires.talking c.requires.given c.in-NotNow.ensures.reads c.self.invariant

pub invariant_of-self-in-Ended : goal.invariant_of-self-in-Ended
invariant_of-self-in-Ended g c = read_last _ _ _ _ _ _ _ _ c.read_at_most-moved.result c.self.view_is c.requires.talking c.requires.given c.in-Ended.is c.read_at_most-moved.ensures.reads c.self.invariant
