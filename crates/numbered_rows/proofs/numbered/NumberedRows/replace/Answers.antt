use Rattle.std.proofs.Common.{◌≡◌, ◌≤◌, ◌<◌, ℕ, rules, sym, ◌∙◌, ap, subst, List, cond, map, arith}
use Rattle.std.specs.Prelude.{count_by, length}
use Rattle.numbered_rows.specs.Numbered.{HasSlot, bears, filled, rows_in}
use Rattle.numbered_rows.specs.RowNotes.{AreNotedIfAny}
use Rattle.numbered_rows.proofs.Noting.{noted_still}
use Rattle.numbered_rows.proofs.Numbering.{as_long_filled, as_many, put_row}
use Rattle.numbered_rows.proofs.numbered.NumberedRows.replace.Goals as goal

pub invariant_of-self : goal.invariant_of-self
invariant_of-self g c =
    let slots = c.put_at.ensures.slots in
    let found = c.slot_of-place.ensures in
    let long : length (filled c.self.inside.slots.items c.slot_of-place.result c.args.row) ≡ length c.self.inside.slots.items = as_long_filled c.self.inside.slots.items c.slot_of-place.result c.args.row in
    let many : length (rows_in (filled c.self.inside.slots.items c.slot_of-place.result c.args.row)) ≡ length (rows_in c.self.inside.slots.items) = as_many g.T.Numbered.number c.number-number.result c.self.inside.slots.items c.slot_of-place.result c.args.row found in
    let own : HasSlot g.T.Numbered.number (g.T.Numbered.number c.args.row) c.self.inside.slots.items c.slot_of-place.result = subst (λ (n : ℕ). HasSlot g.T.Numbered.number n c.self.inside.slots.items c.slot_of-place.result) c.number-number.ensures found in
    let at = c.self.invariant in
    (search (rules, at, c.put_at.ensures.capacity), subst (λ (s : List _). length s < _) (sym slots) (omega (arith, long, at.1)), at.2 ∙ (sym many ∙ ap (λ (s : List _). length (rows_in s)) (sym slots)), at.3, subst (λ (s : List _). AreNotedIfAny g.T.Numbered.number c.self.inside.notes c.self.inside.gone s) (sym slots) (noted_still g.T.Numbered.number c.self.inside.notes c.self.inside.gone c.self.inside.slots.items c.args.row c.slot_of-place.result own at.4))

pub returns : goal.returns
returns g c =
    let once : count_by (bears g.T.Numbered.number c.number-number.result) (rows_in c.self.inside.slots.items) ≤ 1 = subst (λ (rows : List g.row.T.Denot). count_by (bears g.T.Numbered.number c.number-number.result) rows ≤ 1) (sym c.self.view_is) (c.requires.once c.number-number.result) in
    let put = put_row g.T.Numbered.number c.number-number.result c.self.inside.slots.items c.slot_of-place.result c.args.row c.slot_of-place.ensures once in
    let same = ap (λ (rows : List g.row.T.Denot). map (λ r. cond (bears g.T.Numbered.number c.number-number.result r) c.args.row r) rows) c.self.view_is in
    let own = ap (λ (n : ℕ). map (λ r. cond (bears g.T.Numbered.number n r) c.args.row r) c.args.self.now) c.number-number.ensures in
    ap rows_in c.put_at.ensures.slots ∙ (put ∙ (same ∙ own))
