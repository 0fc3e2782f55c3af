use Rattle.session_values.specs.Step.{query}
use Rattle.session_machine.proofs.Endings.{query_ends, query_fails}
use Rattle.session_machine.proofs.query.query_text.Goals as goal

pub returns-in-Ok : goal.returns-in-Ok
returns-in-Ok c = query_ends c.args.session.now c.query.new.session _ _ _ _ (query c.args.catalogue.now c.args.session.now c.args.text.now) c.close_query.result (rw c.in-Ok.is at c.query.ensures) c.close_query.ensures

pub returns-in-Err-Refused : goal.returns-in-Err-Refused
returns-in-Err-Refused c = query_fails c.args.session.now c.query.new.session _ _ _ _ c.in-Err-Refused.cause (query c.args.catalogue.now c.args.session.now c.args.text.now) c.fail_query.result (rw (c.in-Err-Refused.is, c.in-Err-Refused.field-0-is) at c.query.ensures) c.fail_query.ensures
