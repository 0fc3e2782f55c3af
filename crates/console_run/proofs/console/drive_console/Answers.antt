use Rattle.console_run.specs.Exchanges.{asker}
use Rattle.console_run.specs.Passing.{pass_of}
use Rattle.console_run.proofs.Going.{goes_further, goes_none}
use Rattle.console_run.proofs.Talking.{ended_further}
use Rattle.console_run.proofs.console.drive_console.Goals as goal
use Rattle.console_run.proofs.console.drive_console.Goals.{in-Again, in-Rest, in-Wait}

pub loop-init : goal.loop-init
loop-init g c = goes_none _ _ _

pub returns-in-Over : goal.returns-in-Over
returns-in-Over g c = ended_further _ c.loop.counter _ c.loop.talk _ _ _ _ c.in-Over.last c.loop.invariant c.in-Over.ensures

pub loop-preserved : goal.loop-preserved
loop-preserved g c =
    let began = pass_of (g.D.LinkDesk.counted c.args.pass.now) (g.D.LinkDesk.holder c.args.pass.now) in
    let before = pass_of (g.D.LinkDesk.counted c.loop.pass) (g.D.LinkDesk.holder c.loop.pass) in
    let after = pass_of (g.D.LinkDesk.counted c.turn.new.pass) (g.D.LinkDesk.holder c.turn.new.pass) in
    let who = asker c.args.console.now.settings.now c.args.console.now.who.now.user.now in
    elim c.match-turn.branch [
      | in-Again w ↦ goes_further who c.loop.counter 1 c.args.talk.now c.loop.talk c.turn.new.self began before after c.loop.invariant w.in-Again.ensures
      | in-Wait w ↦ goes_further who c.loop.counter 1 c.args.talk.now c.loop.talk c.turn.new.self began before after c.loop.invariant w.in-Wait.ensures
      | in-Rest w ↦ goes_further who c.loop.counter 1 c.args.talk.now c.loop.talk c.turn.new.self began before after c.loop.invariant w.in-Rest.ensures
    ]
