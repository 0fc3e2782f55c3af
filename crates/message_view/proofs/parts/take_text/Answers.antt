use Rattle.std.proofs.Common.{arith, eq-eqb, eqb-true}
use Rattle.message_view.proofs.Texts.{text_at_some, text_at-none}
use Rattle.message_view.proofs.parts.take_text.Goals as goal

pub returns-in-Some-clause-part : goal.returns-in-Some-clause-part
returns-in-Some-clause-part c =
    let first = c.in-Some.ensures in
    text_at_some c.args.bytes.now c.in-Some.end first.0.high (eqb-true _ 0 first.1) (λ j h z. first.0.before j (omega arith) h (eq-eqb _ 0 z))

pub returns-in-None-clause-part : goal.returns-in-None-clause-part
returns-in-None-clause-part c = text_at-none c.args.bytes.now (λ j h z. c.in-None.ensures j (omega arith) h (eq-eqb _ 0 z))
