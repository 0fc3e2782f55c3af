use Rattle.std.proofs.Common.{◌≡◌, ◌<◌, ◌++◌, ◌∷◌, [], ap, sym, ◌∙◌, length, rules}
use Rattle.numbered_rows.specs.Numbered.{rows_in}
use Rattle.numbered_rows.proofs.Numbering.{one_walked}
use Rattle.numbered_rows.proofs.numbered.cloned.Goals as goal

pub slots-preserved : goal.slots-preserved
slots-preserved g c = λ equal.
    let within : c.slots.place < length c.args.slots.now.items = search (rules, c.slots-test.true, c.len-place-end.ensures) in
    let added : c.add_clone.new.rows.items ≡ c.slots.rows.items ++ rows_in (c.index.result.now ∷ []) = search (rules, c.add_clone.ensures, c.in_ok-add_clone.was, equal) in
    added ∙ (ap (λ rows. rows ++ rows_in (c.index.result.now ∷ [])) (c.slots.invariant equal) ∙ sym (one_walked c.args.slots.now.items c.slots.place c.index.result.now c.index.ensures within))
