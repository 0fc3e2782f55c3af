-- Rows that bear numbers, in slots of which some are empty.
use Rattle.std.specs.Prelude.{◌≡◌, ◌==◌, ℕ, Bool, true, List, Option, Some, None, count_by, slice_get, slice_set}
use Rattle.std.specs.List.{filter_map}

-- the rows, in the order of their slots
abbrev pub rows_in : {A : Type 0} → List (Option A) → List A
rows_in slots = filter_map (λ slot. slot) slots

abbrev pub bears : {A : Type 0} → (A → ℕ) → ℕ → A → Bool
bears number n row = number row == n

-- the slot of a row of this number; none, where there is no such row
abbrev pub HasSlot : {A : Type 0} → (A → ℕ) → ℕ → List (Option A) → Option ℕ → Type 0
HasSlot number n slots None = count_by (bears number n) (rows_in slots) ≡ 0
HasSlot {A} number n slots (Some place) = (row : A) × (slice_get slots place ≡ Some (Some row)) × (bears number n row ≡ true)

abbrev pub row_of : {A : Type 0} → Option (Option A) → Option A
row_of None = None
row_of (Some slot) = slot

-- the row in a slot
abbrev pub row_at : {A : Type 0} → List (Option A) → Option ℕ → Option A
row_at slots None = None
row_at slots (Some place) = row_of (slice_get slots place)

-- the slots, of which one is emptied
abbrev pub emptied : {A : Type 0} → List (Option A) → Option ℕ → List (Option A)
emptied slots None = slots
emptied slots (Some place) = slice_set slots place None

-- the slots, of which one has this row
abbrev pub filled : {A : Type 0} → List (Option A) → Option ℕ → A → List (Option A)
filled slots None row = slots
filled slots (Some place) row = slice_set slots place (Some row)
