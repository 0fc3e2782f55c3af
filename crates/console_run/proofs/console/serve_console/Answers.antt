use Rattle.console_run.specs.Exchanges.{asker}
use Rattle.console_run.specs.Passing.{pass_of}
use Rattle.console_run.proofs.Talking.{ended_keeps, served_by}
use Rattle.console_run.proofs.console.serve_console.Goals as goal

pub returns-clause-served : goal.returns-clause-served
returns-clause-served g c = served_by _ c.console_style.result c.args.word _ _ c.in-Ok.talk c.drive_console-last.new.talk _ _ c.drive_console-last.result c.console_style.ensures c.in-Ok.ensures.ok c.finish.ensures c.drive_console-last.ensures

pub returns-clause-share : goal.returns-clause-share
returns-clause-share g c = (ended_keeps (asker c.args.settings.now c.args.who.now.user.now) c.in-Ok.talk c.drive_console-last.new.talk (pass_of (g.D.LinkDesk.counted c.args.pass.now) (g.D.LinkDesk.holder c.args.pass.now)) (pass_of (g.D.LinkDesk.counted c.drive_console-last.new.pass) (g.D.LinkDesk.holder c.drive_console-last.new.pass)) c.drive_console-last.result c.drive_console-last.ensures).share

pub returns-clause-holder : goal.returns-clause-holder
returns-clause-holder g c = (ended_keeps (asker c.args.settings.now c.args.who.now.user.now) c.in-Ok.talk c.drive_console-last.new.talk (pass_of (g.D.LinkDesk.counted c.args.pass.now) (g.D.LinkDesk.holder c.args.pass.now)) (pass_of (g.D.LinkDesk.counted c.drive_console-last.new.pass) (g.D.LinkDesk.holder c.drive_console-last.new.pass)) c.drive_console-last.result c.drive_console-last.ensures).holder
