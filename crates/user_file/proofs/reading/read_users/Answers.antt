use Rattle.std.proofs.Common.{rules, ◌≡◌, [], subst, sym, ap, arith, length, None, Err}
use Rattle.std.specs.Prelude.{map}
use Rattle.std.proofs.lemmas.List.{length-map}
use Rattle.text_lines.specs.Files.{TookLine}
use Rattle.text_lines.specs.Lines.{lines, raw_lines, trimmed}
use Rattle.text_lines.proofs.SoFar.{ReadUpTo, at_start, at_end, taken, refused}
use Rattle.user_file.specs.Users.{with_line, fault_of, keeps}
use Rattle.user_file.specs.declared.faults.UserCause.TheVariants.{Memory}
use Rattle.user_file.proofs.reading.read_users.Goals as goal

pub loop-line-init : goal.loop-line-init
loop-line-init c =
    let text = c.args.text.now in
    let value = c.lines-line-items.ensures.value in
    let raw : c.into_iter-line-iterator.result ≡ raw_lines text = search rules in
    record {
      read = at_start with_line fault_of [] (lines text) c.into_iter-line-iterator.result _ (ap (map trimmed) (sym raw)) c.new-users.ensures;
      bounded = omega (arith, length-map (raw_lines text) trimmed, ap length value, c.lines-line-items.ensures.len);
    }

pub loop-line-preserved : goal.loop-line-preserved
loop-line-preserved c =
    let all = lines c.args.text.now in
    let users = c.loop-line.users in
    let n = c.loop-line.number in
    let so_far = subst (λ i. ReadUpTo with_line fault_of [] all n i users) c.in-Some.ensures.steps c.loop-line.invariant.read in
    let took = subst (λ t. (fault_of users t ≡ None) × (c.take_line.new.users ≡ with_line users t)) c.trimmed.ensures c.in_default.ensures in
    record {
      read = taken with_line fault_of [] all n c.in-Some.line.now c.next.new.self users so_far c.take_line.new.users took.0 took.1;
      bounded = c.loop-line.invariant.bounded;
    }

pub overflow_add-number : goal.overflow_add-number
overflow_add-number c =
    let one = ap length c.in-Some.ensures.steps in
    let counted = c.loop-line.invariant.read.counted in
    search rules

pub returns-in-Err : goal.returns-in-Err
returns-in-Err c =
    let all = lines c.args.text.now in
    let users = c.loop-line.users in
    let n = c.loop-line.number in
    let e = c.in-Err.cause in
    let so_far = subst (λ i. ReadUpTo with_line fault_of [] all n i users) c.in-Some.ensures.steps c.loop-line.invariant.read in
    let took = subst (λ t. TookLine Memory (keeps t) (fault_of users t) (with_line users t) c.take_line.new.users (Err e)) c.trimmed.ensures c.in-Err.ensures in
    refused with_line fault_of [] all n c.in-Some.line.now c.next.new.self users so_far Memory keeps (with_line users (trimmed c.in-Some.line.now)) c.take_line.new.users e took

pub returns : goal.returns
returns c =
    let all = lines c.args.text.now in
    at_end with_line fault_of [] all c.loop-line.number c.loop-line.users
    (subst (λ i. ReadUpTo with_line fault_of [] all c.loop-line.number i c.loop-line.users) c.in-None.ensures.steps.0 c.loop-line.invariant.read)
