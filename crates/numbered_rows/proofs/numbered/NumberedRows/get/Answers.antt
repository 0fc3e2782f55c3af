use Rattle.std.proofs.Common.{◌≤◌, sym, ◌∙◌, ap, subst, List}
use Rattle.std.specs.Prelude.{count_by, find}
use Rattle.numbered_rows.specs.Numbered.{bears, rows_in}
use Rattle.numbered_rows.proofs.Numbering.{found_row}
use Rattle.numbered_rows.proofs.numbered.NumberedRows.get.Goals as goal

pub returns : goal.returns
returns g c =
    let once : count_by (bears g.T.Numbered.number c.args.number) (rows_in c.self.inside.slots.items) ≤ 1 = subst (λ (rows : List g.row.T.Denot). count_by (bears g.T.Numbered.number c.args.number) rows ≤ 1) (sym c.self.view_is) (c.requires.once c.args.number) in
    c.row_at.ensures ∙ (found_row g.T.Numbered.number c.args.number c.self.inside.slots.items c.slot_of-place.result c.slot_of-place.ensures once ∙ ap (find (bears g.T.Numbered.number c.args.number)) c.self.view_is)
