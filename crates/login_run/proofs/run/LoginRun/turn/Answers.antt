use Rattle.std.proofs.Common.{sym, ap, ◌∙◌}
use Rattle.login_run.specs.Runs.{RunView, phase_of}
use Rattle.login_run.proofs.Turning.{turned_write, turned_read}
use Rattle.login_run.proofs.run.LoginRun.turn.Goals as goal

pub returns-then-self-as_bytes-clause-turned : goal.returns-then-self-as_bytes-clause-turned
returns-then-self-as_bytes-clause-turned g c = turned_write c.args.self.now c.write.new.self c.write.result c.write.ensures.turned

pub returns-in-Talking-clause-turned : goal.returns-in-Talking-clause-turned
returns-in-Talking-clause-turned g c = turned_read c.args.self.now c.read.new.self c.read.result (sym (ap (λ (v : RunView). v.phase) c.self.view_is) ∙ ap phase_of c.in-Talking.is) c.read.ensures.turned
