use Rattle.std.proofs.Common.{◌≤◌, length, drop}
use Rattle.book_model.specs.RowIndex.{FindsRows}
use Rattle.book_model.proofs.rows.places_of.Given as goal

abbrev pub invariant-rows : goal.invariant-rows
invariant-rows l = (l.left ≤ length l.rows) × FindsRows (λ k. k.items) l.places.entries l.rows (drop l.left l.rows)

abbrev pub decreases-rows : goal.decreases-rows
decreases-rows l = l.left
