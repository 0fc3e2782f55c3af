use Rattle.login_run.proofs.Running.{new_run}
use Rattle.login_run.proofs.run.LoginRun.new.Goals as goal

pub invariant_of-result : goal.invariant_of-result
invariant_of-result g c = new_run c.new_tells.ensures _ c.args.login c.requires.awaiting c.requires.held c.requires.taken c.requires.given
