use Rattle.std.proofs.Common.{◌<◌, Option, ℕ, ap, ◌∙◌, length, rules}
use Rattle.book_rows.specs.Numbered.{last_with}
use Rattle.book_rows.proofs.Numbering.{last_walked}
use Rattle.book_rows.proofs.links.last_in.Goals as goal

pub slots-preserved : goal.slots-preserved
slots-preserved c =
    let within : c.slots.place < length c.args.slots.now.items = search (rules, c.slots-test.true, c.len-place-end.ensures) in
    c.last_with-last.ensures ∙ (ap (λ (o : Option ℕ). last_with c.args.key.now c.index.result.now o) c.slots.invariant ∙ last_walked c.args.key.now c.args.slots.now.items c.slots.place c.index.result.now c.index.ensures within)
