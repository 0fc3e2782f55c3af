use Rattle.login_run.specs.Runs.{IsSameLogin}
use Rattle.pool_serve.proofs.serve.drive_login.Given as goal

abbrev pub invariant-loop : goal.invariant-loop
invariant-loop g l = IsSameLogin l.initial.run l.run
