use Rattle.std.proofs.Common.{refl}
use Rattle.console_run.specs.Passing.{pass_of}
use Rattle.console_run.proofs.Replying.{done_told, faulty_answered}
use Rattle.console_run.proofs.answering.Console.act.Goals as goal

pub returns-in-Done : goal.returns-in-Done
returns-in-Done g c = (done_told c.args.action c.in-Ok.done.items (pass_of (g.D.LinkDesk.counted c.args.pass.now) (g.D.LinkDesk.holder c.args.pass.now)) (pass_of (g.D.LinkDesk.counted c.act.new.pass) (g.D.LinkDesk.holder c.act.new.pass)) c.in-Ok.ensures c.in-Done.ensures, refl)

pub returns-in-Faulty : goal.returns-in-Faulty
returns-in-Faulty g c = faulty_answered c.args.action c.error_bytes.result _ (pass_of (g.D.LinkDesk.counted c.args.pass.now) (g.D.LinkDesk.holder c.args.pass.now)) (pass_of (g.D.LinkDesk.counted c.act.new.pass) (g.D.LinkDesk.holder c.act.new.pass)) c.told.ensures c.error_bytes.ensures c.in-Faulty.ensures
