use Rattle.std.proofs.Common.{◌≡◌, ◌≤◌, ◌<◌, ◌+◌, rules, sym, ◌∙◌, ap, subst, List, Some, arith}
use Rattle.std.specs.Prelude.{count_by, find, filter, not, length}
use Rattle.numbered_rows.specs.Numbered.{bears, emptied, row_at, rows_in}
use Rattle.numbered_rows.specs.RowNotes.{AreNotedIfAny}
use Rattle.numbered_rows.proofs.Noting.{noted_taken}
use Rattle.numbered_rows.proofs.Numbering.{as_long, found_row, one_fewer, taken_row}
use Rattle.numbered_rows.proofs.numbered.NumberedRows.take.Goals as goal

pub invariant_of-self-2 : goal.invariant_of-self-2
invariant_of-self-2 g c =
    let there : row_at c.self.inside.slots.items c.slot_of-place.result ≡ Some c.in_ok-row.row = sym c.take_at.ensures.row ∙ search rules in
    let fewer : 1 + length (rows_in (emptied c.self.inside.slots.items c.slot_of-place.result)) ≡ length (rows_in c.self.inside.slots.items) = one_fewer c.self.inside.slots.items c.slot_of-place.result c.in_ok-row.row there in
    let long : length (emptied c.self.inside.slots.items c.slot_of-place.result) ≡ length c.self.inside.slots.items = as_long c.self.inside.slots.items c.slot_of-place.result in
    let rest = c.take_at.ensures.rest in
    let once : count_by (bears g.T.Numbered.number c.args.number) (rows_in c.self.inside.slots.items) ≤ 1 = subst (λ (rows : List g.row.T.Denot). count_by (bears g.T.Numbered.number c.args.number) rows ≤ 1) (sym c.self.view_is) (c.requires.once c.args.number) in
    let at = c.self.invariant in
    (search (rules, at, c.take_at.ensures.capacity), subst (λ (slots : List _). length slots < _) (sym rest) (omega (arith, long, at.1)), omega (arith, fewer, at.2) ∙ ap (λ (slots : List _). length (rows_in slots)) (sym rest), at.3, subst (λ (slots : List _). AreNotedIfAny g.T.Numbered.number c.forget.new.notes c.self.inside.gone slots) (sym rest) (noted_taken g.T.Numbered.number c.self.inside.notes c.forget.new.notes c.self.inside.gone c.self.inside.slots.items c.args.number c.slot_of-place.result c.in_ok-row.row c.forget.ensures.forgets there c.slot_of-place.ensures once at.4))

pub returns-clause-row : goal.returns-clause-row
returns-clause-row g c =
    let once : count_by (bears g.T.Numbered.number c.args.number) (rows_in c.self.inside.slots.items) ≤ 1 = subst (λ (rows : List g.row.T.Denot). count_by (bears g.T.Numbered.number c.args.number) rows ≤ 1) (sym c.self.view_is) (c.requires.once c.args.number) in
    let row = found_row g.T.Numbered.number c.args.number c.self.inside.slots.items c.slot_of-place.result c.slot_of-place.ensures once ∙ ap (find (bears g.T.Numbered.number c.args.number)) c.self.view_is in
    let taken = c.take_at.ensures.row in
    search (rules, row, taken)

pub returns-clause-rest : goal.returns-clause-rest
returns-clause-rest g c =
    let once : count_by (bears g.T.Numbered.number c.args.number) (rows_in c.self.inside.slots.items) ≤ 1 = subst (λ (rows : List g.row.T.Denot). count_by (bears g.T.Numbered.number c.args.number) rows ≤ 1) (sym c.self.view_is) (c.requires.once c.args.number) in
    let rest = taken_row g.T.Numbered.number c.args.number c.self.inside.slots.items c.slot_of-place.result c.slot_of-place.ensures once ∙ ap (filter (λ x. not (bears g.T.Numbered.number c.args.number x))) c.self.view_is in
    let gone = ap rows_in c.take_at.ensures.rest in
    c.drop_empty-2.ensures ∙ (c.drop_empty.ensures ∙ (gone ∙ rest))
