use Rattle.session_values.specs.Step.{asked, performed}
use Rattle.session_values.specs.State.{State}
use Rattle.session_machine.proofs.Endings.{extended_done, extended_refused}
use Rattle.session_machine.proofs.step.answer_extended.Goals as goal

pub returns-in-Ok : goal.returns-in-Ok
returns-in-Ok c = extended_done c.args.session.now c.save.new.self c.perform.new.session _ _ (λ (s : State). performed c.args.catalogue.now s c.args.struck (asked c.args.frame.kind) c.args.frame.body.now) c.save.ensures (rw c.in-Ok.is at c.perform.ensures)

pub returns-in-Err-Refused : goal.returns-in-Err-Refused
returns-in-Err-Refused c = extended_refused c.in-Err-Refused.cause c.args.session.now c.save.new.self c.perform.new.session _ _ _ _ (λ (s : State). performed c.args.catalogue.now s c.args.struck (asked c.args.frame.kind) c.args.frame.body.now) c.refuse.result c.save.ensures (rw (c.in-Err-Refused.is, c.in-Err-Refused.field-0-is) at c.perform.ensures) c.refuse.ensures
