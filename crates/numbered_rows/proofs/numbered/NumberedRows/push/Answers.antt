use Rattle.std.proofs.Common.{◌≡◌, ◌+◌, ◌<◌, ℕ, List, Some, length, rules, sym, ◌∙◌, ap, subst, arith}
use Rattle.numbered_rows.specs.Numbered.{rows_in}
use Rattle.numbered_rows.specs.RowNotes.{AreNotedIfAny, Notes}
use Rattle.numbered_rows.specs.Indexes.{Follows}
use Rattle.numbered_rows.specs.declared.numbered.TheConstants.{ROWS}
use Rattle.numbered_rows.proofs.Noting.{noted_more}
use Rattle.numbered_rows.proofs.Numbering.{one_behind, one_longer}
use Rattle.numbered_rows.proofs.numbered.NumberedRows.push.Goals as goal

pub invariant_of-self : goal.invariant_of-self
invariant_of-self g c =
    let at = c.self.invariant in
    let rows = ap rows_in c.push_back_reserved.ensures.items ∙ one_behind c.self.inside.slots.items c.args.row in
    let one : length (rows_in c.push_back_reserved.new.self.items) ≡ length (rows_in c.self.inside.slots.items) + 1 = one_longer (rows_in c.self.inside.slots.items) (rows_in c.push_back_reserved.new.self.items) c.args.row rows in
    let few : length (rows_in c.self.inside.slots.items) < ROWS = subst (λ (xs : List _). length xs < ROWS) (sym c.self.view_is) c.requires in
    let kept : length (rows_in c.close_up.new.slots.items) ≡ length (rows_in c.push_back_reserved.new.self.items) = ap length c.close_up.ensures.rows in
    (search (rules, at.0, c.push_back_reserved.ensures.capacity, c.close_up.ensures.capacity), omega (arith, few, one, c.close_up.ensures.all), omega (arith, at.2, one, kept), omega (arith), c.note_all.ensures)

pub invariant_of-self-else-len-eq-SLOTS : goal.invariant_of-self-else-len-eq-SLOTS
invariant_of-self-else-len-eq-SLOTS g c =
    let at = c.self.invariant in
    let items = c.push_back_reserved.ensures.items in
    let rows = ap rows_in items ∙ one_behind c.self.inside.slots.items c.args.row in
    let one : length (rows_in c.push_back_reserved.new.self.items) ≡ length (rows_in c.self.inside.slots.items) + 1 = one_longer (rows_in c.self.inside.slots.items) (rows_in c.push_back_reserved.new.self.items) c.args.row rows in
    let longer : length c.push_back_reserved.new.self.items ≡ length c.self.inside.slots.items + 1 = one_longer c.self.inside.slots.items c.push_back_reserved.new.self.items (Some c.args.row) items in
    let by_number : Follows (Notes (g.T.Numbered.number c.args.row) (c.self.inside.gone + c.len.result)) c.self.inside.notes c.note.new.notes = subst (λ (k : ℕ). Follows (Notes k (c.self.inside.gone + c.len.result)) c.self.inside.notes c.note.new.notes) c.number.ensures c.note.ensures in
    let noted : Follows (Notes (g.T.Numbered.number c.args.row) (c.self.inside.gone + length c.self.inside.slots.items)) c.self.inside.notes c.note.new.notes = subst (λ (k : ℕ). Follows (Notes (g.T.Numbered.number c.args.row) (c.self.inside.gone + k)) c.self.inside.notes c.note.new.notes) (c.len.ensures ∙ search (rules, c.self.ranges)) by_number in
    let all = noted_more g.T.Numbered.number c.self.inside.notes c.note.new.notes c.self.inside.gone c.self.inside.slots.items c.args.row noted at.4 in
    (search (rules, at.0, c.push_back_reserved.ensures.capacity), search (rules, arith, at.1, longer, c.len-2.ensures, c.if-len-eq-SLOTS.false), omega (arith, at.2, one), at.3, subst (λ (slots : List _). AreNotedIfAny g.T.Numbered.number c.note.new.notes c.self.inside.gone slots) (sym items) all)
