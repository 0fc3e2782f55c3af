use Rattle.std.proofs.Common.{◌≡◌, take}
use Rattle.numbered_rows.specs.Numbered.{rows_in}
use Rattle.numbered_rows.proofs.numbered.cloned.Given as goal

abbrev pub invariant-slots : goal.invariant-slots
invariant-slots g l = ((x y : g.row.T.Denot) → g.T.Clone.is_clone x y → y ≡ x) → l.rows.items ≡ rows_in (take l.place l.slots.items)
