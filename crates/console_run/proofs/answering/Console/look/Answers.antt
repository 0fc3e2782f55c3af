use Rattle.std.proofs.Common.{ap₂}
use Rattle.console_run.specs.Passing.{pass_of}
use Rattle.console_run.proofs.Replying.{looked}
use Rattle.console_run.proofs.answering.Console.look.Goals as goal

pub returns : goal.returns
returns g c = looked _ _ c.show.result c.told.result (pass_of (g.D.LinkDesk.counted c.args.pass.now) (g.D.LinkDesk.holder c.args.pass.now)) (pass_of (g.D.LinkDesk.counted c.show.new.pass) (g.D.LinkDesk.holder c.show.new.pass)) c.show.ensures.shown c.told.ensures (ap₂ pass_of c.show.ensures.counted c.show.ensures.holder)
