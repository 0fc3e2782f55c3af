use Rattle.std.proofs.Common.{rules, ◌≡◌, length, subst, ap, arith}
use Rattle.text_lines.specs.Lines.{raw_lines}
use Rattle.session_catalogue.specs.Catalogues.{parts, said}
use Rattle.session_catalogue.specs.Drafts.{with_said}
use Rattle.session_catalogue.proofs.Catalogued.{ReadUpTo, at_start, taken, refused, ended}
use Rattle.session_catalogue.proofs.Lawfully.{read_is_lawful}
use Rattle.session_catalogue.proofs.catalogue.read_whole.Goals as goal

pub loop-line-init : goal.loop-line-init
unfolding parts
loop-line-init c =
    let raw : c.into_iter-line-iterator.result ≡ raw_lines c.args.text.now = search rules in
    record {
      read = at_start (raw_lines c.args.text.now) c.into_iter-line-iterator.result _ raw c.new-draft.ensures;
      bounded = omega (arith, ap length c.lines-line-items.ensures.value, c.lines-line-items.ensures.len);
    }

pub loop-line-preserved : goal.loop-line-preserved
loop-line-preserved c =
    let all = raw_lines c.args.text.now in
    let n = c.loop-line.number in
    let so_far = subst (λ i. ReadUpTo all n i c.loop-line.draft) c.in-Some.ensures.steps c.loop-line.invariant.read in
    let took = c.in_default.ensures in
    record {
      read = taken all n c.in-Some.line.now c.next.new.self c.loop-line.draft so_far c.take_line.new.self took.0 took.1;
      bounded = c.loop-line.invariant.bounded;
    }

pub returns-in-Err-clause-grammar : goal.returns-in-Err-clause-grammar
returns-in-Err-clause-grammar c =
    let all = raw_lines c.args.text.now in
    let n = c.loop-line.number in
    let so_far = subst (λ i. ReadUpTo all n i c.loop-line.draft) c.in-Some.ensures.steps c.loop-line.invariant.read in
    refused all n c.in-Some.line.now c.next.new.self c.loop-line.draft so_far (with_said c.loop-line.draft (said c.in-Some.line.now)) c.take_line.new.self c.in-Err.cause c.in-Err.ensures

pub returns-clause-grammar : goal.returns-clause-grammar
returns-clause-grammar c =
    let all = raw_lines c.args.text.now in
    ended all c.loop-line.number c.loop-line.draft c.finished.result (subst (λ i. ReadUpTo all c.loop-line.number i c.loop-line.draft) c.in-None.ensures.steps.0 c.loop-line.invariant.read) c.finished.ensures

pub returns-clause-lawful : goal.returns-clause-lawful
returns-clause-lawful c =
    let all = raw_lines c.args.text.now in
    read_is_lawful all c.finished.result
    (ended all c.loop-line.number c.loop-line.draft c.finished.result (subst (λ i. ReadUpTo all c.loop-line.number i c.loop-line.draft) c.in-None.ensures.steps.0 c.loop-line.invariant.read) c.finished.ensures)
