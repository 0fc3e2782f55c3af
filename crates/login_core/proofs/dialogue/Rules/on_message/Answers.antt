use Rattle.std.proofs.Common.{rules}
use Rattle.login_core.proofs.Awaiting.{hears_bad, hears_end, hears_stop, hears_answer}
use Rattle.login_core.proofs.dialogue.Rules.on_message.Goals as goal

pub returns-in-Bad-clause-step : goal.returns-in-Bad-clause-step
returns-in-Bad-clause-step c = hears_bad c.packets_grow.ensures _ _ _ _ _ c.requires c.in-Bad.field-0 c.in-Bad.ensures.tells

pub returns-then-frame-ne-PASSWORD_MESSAGE-clause-step : goal.returns-then-frame-ne-PASSWORD_MESSAGE-clause-step
returns-then-frame-ne-PASSWORD_MESSAGE-clause-step c = hears_stop c.packets_grow.ensures _ _ _ _ _ c.requires c.in-Whole.frame c.in-Whole.ensures.tells (search rules)

pub returns-clause-step : goal.returns-clause-step
returns-clause-step c = hears_answer c.packets_grow.ensures _ _ _ _ _ c.requires c.in-Whole.frame c.in-Whole.ensures.tells _ _ c.if-frame-ne-PASSWORD_MESSAGE.false c.on_answer-step.ensures.answers

pub returns-then-frame-eq-TERMINATE-clause-step : goal.returns-then-frame-eq-TERMINATE-clause-step
returns-then-frame-eq-TERMINATE-clause-step c = hears_end c.packets_grow.ensures _ _ _ _ _ c.requires c.in-Whole.frame c.in-Whole.ensures.tells c.if-frame-eq-TERMINATE.true
