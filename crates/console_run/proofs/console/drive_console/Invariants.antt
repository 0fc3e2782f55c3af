use Rattle.console_run.specs.Exchanges.{asker}
use Rattle.console_run.specs.Passing.{pass_of}
use Rattle.console_run.specs.Turns.{Goes}
use Rattle.console_run.proofs.console.drive_console.Given as goal

abbrev pub invariant-loop : goal.invariant-loop
invariant-loop g l = Goes (asker l.console.settings.now l.console.who.now.user.now) l.counter l.initial.talk l.talk (pass_of (g.D.LinkDesk.counted l.initial.pass) (g.D.LinkDesk.holder l.initial.pass)) (pass_of (g.D.LinkDesk.counted l.pass) (g.D.LinkDesk.holder l.pass))
