use Rattle.std.proofs.Common.{rules}
use Rattle.login_core.proofs.Turning.{cleartext_at_once}
use Rattle.login_core.proofs.dialogue.Rules.go_on.Goals as goal

pub returns-in-Plain-clause-step : goal.returns-in-Plain-clause-step
returns-in-Plain-clause-step c = cleartext_at_once c.packets_grow.ensures _ _ _ (search rules)
