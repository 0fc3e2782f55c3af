use Rattle.login_core.proofs.Awaiting.{hears_start, hears_cancel, hears_tls, hears_gss, hears_fault}
use Rattle.login_core.proofs.dialogue.Rules.on_first_packet.Goals as goal

pub returns-in-Startup-clause-step : goal.returns-in-Startup-clause-step
returns-in-Startup-clause-step c = hears_start c.packets_grow.ensures _ _ _ _ _ c.requires c.in-Startup.text _ _ c.in-Startup.ensures.tells c.on_startup_message.ensures.means

pub returns-in-Cancel-clause-step : goal.returns-in-Cancel-clause-step
returns-in-Cancel-clause-step c = hears_cancel c.packets_grow.ensures _ _ _ _ _ c.requires _ _ c.in-Cancel.ensures.tells

pub returns-else-tls-clause-step : goal.returns-else-tls-clause-step
returns-else-tls-clause-step c = hears_tls c.packets_grow.ensures _ _ _ _ _ c.requires c.if-tls.false c.in-Tls.ensures.tells

pub returns-else-gss-clause-step : goal.returns-else-gss-clause-step
returns-else-gss-clause-step c = hears_gss c.packets_grow.ensures _ _ _ _ _ c.requires c.if-gss.false c.in-Gss.ensures.tells

pub returns-in-Bad-clause-step : goal.returns-in-Bad-clause-step
returns-in-Bad-clause-step c = hears_fault c.packets_grow.ensures _ _ _ _ _ c.requires _ _ c.in-Bad.ensures.tells c.refusal_of.ensures
