use Rattle.std.proofs.Common.{arith, eq-eqb, eqb-true, ap, ◌∙◌}
use Rattle.session_catalogue.specs.FieldsLeft.{fields_left, fields_from}
use Rattle.mini_sql.proofs.Reading.{goes-first}
use Rattle.session_catalogue.proofs.Fieldings.{fields-cut, fields-whole}
use Rattle.session_catalogue.proofs.catalogue_fields.FieldsIterator.next.Goals as goal

pub returns-in-Some-clause-steps : goal.returns-in-Some-clause-steps
returns-in-Some-clause-steps c =
    let first = c.in-Some.ensures in
    ap fields_from c.in_ok-text.was ∙ fields-cut c.in_ok-text.text.now c.in-Some.end first.0.high (eqb-true _ 9 first.1) (λ j h z. first.0.before j (omega arith) h (eq-eqb _ 9 z))

pub returns-in-Some-clause-goes : goal.returns-in-Some-clause-goes
returns-in-Some-clause-goes c =
    let first = c.in-Some.ensures in
    goes-first _ (λ _. tt) fields_left _ _ _ _ (ap fields_from c.in_ok-text.was ∙ fields-cut c.in_ok-text.text.now c.in-Some.end first.0.high (eqb-true _ 9 first.1) (λ j h z. first.0.before j (omega arith) h (eq-eqb _ 9 z)))

pub returns-in-None-clause-steps : goal.returns-in-None-clause-steps
returns-in-None-clause-steps c = ap fields_from c.in_ok-text.was ∙ fields-whole c.in_ok-text.text.now (λ j h z. c.in-None.ensures j (omega arith) h (eq-eqb _ 9 z))

pub returns-in-None-clause-goes : goal.returns-in-None-clause-goes
returns-in-None-clause-goes c =
    goes-first _ (λ _. tt) fields_left _ _ _ _ (ap fields_from c.in_ok-text.was ∙ fields-whole c.in_ok-text.text.now (λ j h z. c.in-None.ensures j (omega arith) h (eq-eqb _ 9 z)))
