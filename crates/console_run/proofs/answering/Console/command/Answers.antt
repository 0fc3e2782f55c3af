use Rattle.std.proofs.Common.{ap, ◌∙◌}
use Rattle.ini_config.specs.declared.option_values.ConsoleStyle.{ConsoleStyle as Style}
use Rattle.monitor_core.specs.declared.asking.Request.TheVariants as request
use Rattle.monitor_core.specs.Requests.{request_of}
use Rattle.console_run.specs.Passing.{pass_of}
use Rattle.console_run.specs.Exchanges.{asker}
use Rattle.console_run.proofs.Reading.{looked_at}
use Rattle.console_run.proofs.answering.Console.command.Goals as goal

pub returns-in-Asked : goal.returns-in-Asked
returns-in-Asked g c = looked_at (asker c.args.self.now.settings.now c.args.self.now.who.now.user.now) c.args.text.now (request.Asked c.in-Asked.asked) c.look-in-Asked.result
    (pass_of (g.D.LinkDesk.counted c.args.pass.now) (g.D.LinkDesk.holder c.args.pass.now)) (pass_of (g.D.LinkDesk.counted c.look-in-Asked.new.pass) (g.D.LinkDesk.holder c.look-in-Asked.new.pass))
    (c.in-Asked.ensures ∙ ap (λ (style : Style). request_of style c.args.text.now) c.console_style.ensures) (λ action e. cc) (λ database e. cc) c.look-in-Asked.ensures

pub returns-in-Unknown : goal.returns-in-Unknown
returns-in-Unknown g c = looked_at (asker c.args.self.now.settings.now c.args.self.now.who.now.user.now) c.args.text.now request.Unknown c.look-in-Unknown.result
    (pass_of (g.D.LinkDesk.counted c.args.pass.now) (g.D.LinkDesk.holder c.args.pass.now)) (pass_of (g.D.LinkDesk.counted c.look-in-Unknown.new.pass) (g.D.LinkDesk.holder c.look-in-Unknown.new.pass))
    (c.in-Unknown.ensures ∙ ap (λ (style : Style). request_of style c.args.text.now) c.console_style.ensures) (λ action e. cc) (λ database e. cc) c.look-in-Unknown.ensures
