use Rattle.std.proofs.Common.{ap, ◌∙◌}
use Rattle.login_core.specs.Logins.{LoginView}
use Rattle.pool_serve.proofs.Managing.{managed}
use Rattle.pool_serve.proofs.worker.Worker.manage.Goals as goal

pub returns-clause-managed : goal.returns-clause-managed
returns-clause-managed g c =
    managed c.args.run (g.C.ClientEnd.facts c.finish-client.result.0) (g.C.ClientEnd.facts c.serve_console-client.result.0) _ _ _ _ _ c.serve_console-client.result.1 c.finish-client.ensures.run c.requires.console c.requires.given c.finish-client.ensures.client c.serve_console-client.ensures.tells
    (c.deref.ensures ∙ (c.settings.ensures ∙ ap (λ (v : LoginView). v.settings) c.finish-client.ensures.login))
    c.requires.word c.serve_console-client.ensures.served
