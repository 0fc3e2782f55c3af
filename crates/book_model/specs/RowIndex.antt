-- What an index of database rows by their names finds.
use Rattle.std.specs.Prelude.{◌≡◌, ℕ, List, Option, None, Some, bytes_eq, slice_get}
use Rattle.std.specs.Map.{lookup}
use Rattle.book_model.specs.Book.{Row, row_named}

-- the row at a place
abbrev pub row_at : List Row → Option ℕ → Option Row
row_at rows None = None
row_at rows (Some place) = slice_get rows place

-- each name's entry is the place, among the rows, of the first of these that bears it
abbrev pub FindsRows : {K : Type 0} → (K → List ℕ) → List (K × ℕ) → List Row → List Row → Type 0
FindsRows text entries rows these = (name : List ℕ) → row_at rows (lookup (λ k. bytes_eq name (text k)) entries) ≡ row_named name these
