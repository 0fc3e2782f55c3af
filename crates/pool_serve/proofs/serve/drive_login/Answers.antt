use Rattle.pool_serve.proofs.Stopping.{stopped_by}
use Rattle.pool_serve.proofs.serve.drive_login.Goals as goal

pub returns-in_default-clause-stopped : goal.returns-in_default-clause-stopped
returns-in_default-clause-stopped g c = stopped_by c.loop.run c.turn.new.self c.turn.result c.turn.ensures.turned c.in_default.not-Again c.in_default.not-Wait
