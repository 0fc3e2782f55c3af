use Rattle.std.proofs.Common.{rules, ◌≡◌, subst, sym, ap, arith, length, None, Err, inr}
use Rattle.std.specs.Prelude.{map}
use Rattle.std.proofs.lemmas.List.{length-map}
use Rattle.text_lines.specs.Files.{TookLine}
use Rattle.text_lines.specs.Lines.{lines, raw_lines, trimmed}
use Rattle.text_lines.proofs.SoFar.{ReadUpTo, at_start, at_end, taken, refused}
use Rattle.ini_config.specs.Reading.{with_line, fault_of, empty_file, keeps}
use Rattle.ini_config.specs.declared.faults.IniCause.TheVariants as cause
use Rattle.ini_config.proofs.reading.read_settings.Goals as goal

pub loop-line-init : goal.loop-line-init
loop-line-init c =
    let text = c.args.text.now in
    let value = c.lines-line-items.ensures.value in
    let raw : c.into_iter-line-iterator.result ≡ raw_lines text = search rules in
    record {
      read = at_start with_line fault_of empty_file (lines text) c.into_iter-line-iterator.result _ (ap (map trimmed) (sym raw))
          (c.in-Ok.ensures);
      bounded = omega (arith, length-map (raw_lines text) trimmed, ap length value, c.lines-line-items.ensures.len);
    }

pub loop-line-preserved : goal.loop-line-preserved
loop-line-preserved c =
    let all = lines c.args.text.now in
    let r = c.loop-line.reading in
    let n = c.loop-line.number in
    let so_far = subst (λ i. ReadUpTo with_line fault_of empty_file all n i r) c.in-Some.ensures.steps c.loop-line.invariant.read in
    let took = subst (λ t. (fault_of r t ≡ None) × (c.take_line.new.self ≡ with_line r t)) c.trimmed.ensures c.in_default.ensures.took in
    record {
      read = taken with_line fault_of empty_file all n c.in-Some.line.now c.next.new.self r so_far c.take_line.new.self took.0 took.1;
      bounded = c.loop-line.invariant.bounded;
    }

pub overflow_add-number : goal.overflow_add-number
overflow_add-number c =
    let one = ap length c.in-Some.ensures.steps in
    let counted = c.loop-line.invariant.read.counted in
    search rules

pub returns-in-Err-take_line : goal.returns-in-Err-take_line
returns-in-Err-take_line c =
    let all = lines c.args.text.now in
    let r = c.loop-line.reading in
    let n = c.loop-line.number in
    let e = c.in-Err-take_line.cause in
    let so_far = subst (λ i. ReadUpTo with_line fault_of empty_file all n i r) c.in-Some.ensures.steps c.loop-line.invariant.read in
    let took = subst (λ t. TookLine cause.Memory (keeps t) (fault_of r t) (with_line r t) c.take_line.new.self (Err e)) c.trimmed.ensures c.in-Err-take_line.ensures.took in
    inr (refused with_line fault_of empty_file all n c.in-Some.line.now c.next.new.self r so_far cause.Memory keeps (with_line r (trimmed c.in-Some.line.now)) c.take_line.new.self e took)

pub returns : goal.returns
returns c =
    let all = lines c.args.text.now in
    let end = at_end with_line fault_of empty_file all c.loop-line.number c.loop-line.reading
    (subst (λ i. ReadUpTo with_line fault_of empty_file all c.loop-line.number i c.loop-line.reading) c.in-None.ensures.steps.0 c.loop-line.invariant.read) in (
      end.0,
      ap (λ s. s.settings) end.1,
    )
