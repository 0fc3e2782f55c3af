use Rattle.login_run.proofs.Running.{went_on}
use Rattle.login_run.proofs.run.LoginRun.go_on.Goals as goal

pub invariant_of-self : goal.invariant_of-self
invariant_of-self g c = went_on c.steps_tell.ensures c.steps_say.ensures _ _ _ _ _ _ c.on_bytes-step.result.0 _ c.on_bytes-step.result.1 _ _ c.self.view_is c.requires.arrived c.requires.given c.after.ensures.phase c.after.ensures.said c.on_bytes-step.ensures.means c.on_bytes-step.ensures.reveals c.self.invariant
