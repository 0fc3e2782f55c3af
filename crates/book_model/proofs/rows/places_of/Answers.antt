use Rattle.std.proofs.Common.{◌≡◌, ℕ, ◌-◌, ◌<◌, List, ◌∷◌, length, Some, sym, ap, ◌∙◌, arith, slice_get, suc, bytes_eq}
use Rattle.std.specs.Map.{lookup}
use Rattle.std.proofs.Math.ListN.{drop}
use Rattle.std.proofs.Math.Seq.{drop-cons}
use Rattle.std.proofs.lemmas.Option.{slice_get-get_or}
use Rattle.book_model.specs.Book.{Row, row_named}
use Rattle.book_model.specs.RowIndex.{row_at}
use Rattle.book_model.proofs.Indexing.{one_before}
use Rattle.book_model.proofs.rows.places_of.Goals as goal

pub rows-preserved : goal.rows-preserved
rows-preserved c =
    let rows : List Row = c.args.rows.now in
    let left : ℕ = c.rows.left in
    let row : Row = c.index-rows-left.result in
    let inside : left - 1 < length rows = omega (arith, c.rows.invariant.0, c.rows-test.true) in
    let next : suc (left - 1) ≡ left = omega (arith, c.rows-test.true) in
    let there : slice_get rows (left - 1) ≡ Some row = slice_get-get_or rows (left - 1) row inside ∙ ap Some (sym c.index-rows-left.is) in
    let these : row ∷ drop left rows ≡ drop (left - 1) rows = ap (λ (n : ℕ). row ∷ drop n rows) (sym next) ∙ (ap (λ (r : Row). r ∷ drop (suc (left - 1)) rows) c.index-rows-left.is ∙ sym (drop-cons rows (left - 1) row inside)) in
    let own = c.in_ok-from_slice.ensures.items ∙ (c.as_slice.ensures ∙ ap (λ (r : Row). r.name) c.row.view_is) in
    let finds = one_before (λ k. k.items) c.rows.places.entries rows c.in_ok-from_slice.field-0 (left - 1) row (drop left rows) there own c.rows.invariant.1 in
    (omega (arith, c.rows.invariant.0), λ name. ap (λ es. row_at rows (lookup (λ k. bytes_eq name k.items) es)) c.in_ok-insert.ensures.entries ∙ (finds name ∙ ap (row_named name) these))
