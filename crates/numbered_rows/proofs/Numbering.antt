-- Rows that bear numbers, in slots of which some are empty.
use Rattle.std.proofs.Common.{◌≡◌, ℕ, suc, zero, ◌+◌, ◌≤◌, ◌<◌, Bool, true, false, List, [], ◌∷◌, ◌++◌, length, take, Option, None, Some, cond, refl, sym, ap, ◌∙◌, arith, map, rules, get_or}
use Rattle.std.specs.Prelude.{position, find, filter, not, count_by, slice_get, slice_set, is_some}
use Rattle.std.proofs.lemmas.List.Quantifiers.{position-Some}
use Rattle.std.proofs.Math.ListN.{length-append}
use Rattle.std.specs.List.{list_any}
use Rattle.std.specs.Prelude.{◌||◌}
use Rattle.numbered_rows.specs.Numbered.{HasSlot, bears, emptied, filled, row_at, row_of, rows_in}
use Rattle.numbered_rows.specs.Places.{passes}
use Rattle.numbered_rows.proofs.Places.{count-cons, get_is, more_taken, none_counted, none_here, without_none}

-- ---- lists

filter-true : {A : Type 0} (p : A → Bool) (x : A) (xs : List A) → p x ≡ true → filter (λ y. not (p y)) (x ∷ xs) ≡ filter (λ y. not (p y)) xs
filter-true p x xs e = ap (λ b. cond (not b) (x ∷ filter (λ y. not (p y)) xs) (filter (λ y. not (p y)) xs)) e

filter-false : {A : Type 0} (p : A → Bool) (x : A) (xs : List A) → p x ≡ false → filter (λ y. not (p y)) (x ∷ xs) ≡ x ∷ filter (λ y. not (p y)) xs
filter-false p x xs e = ap (λ b. cond (not b) (x ∷ filter (λ y. not (p y)) xs) (filter (λ y. not (p y)) xs)) e

find-true : {A : Type 0} (p : A → Bool) (x : A) (xs : List A) → p x ≡ true → find p (x ∷ xs) ≡ Some x
find-true p x xs e = ap (λ b. cond b (Some x) (find p xs)) e

find-false : {A : Type 0} (p : A → Bool) (x : A) (xs : List A) → p x ≡ false → find p (x ∷ xs) ≡ find p xs
find-false p x xs e = ap (λ b. cond b (Some x) (find p xs)) e

count-true : {A : Type 0} (p : A → Bool) (x : A) (xs : List A) → p x ≡ true → count_by p (x ∷ xs) ≡ 1 + count_by p xs
count-true p x xs e = count-cons p x xs ∙ ap (λ b. cond {A = ℕ} b 1 0 + count_by p xs) e

find_none : {A : Type 0} (p : A → Bool) (xs : List A) → count_by p xs ≡ 0 → find p xs ≡ None
find_none p [] h = refl
find_none p (x ∷ xs) h = let at = none_here p x xs (p x) refl h in find-false p x xs at.0 ∙ find_none p xs at.1

unchanged : {A : Type 0} (p : A → Bool) (y : A) (xs : List A) → count_by p xs ≡ 0 → map (λ x. cond (p x) y x) xs ≡ xs
unchanged p y [] h = refl
unchanged p y (x ∷ xs) h = let at = none_here p x xs (p x) refl h in ap (λ b. cond b y x ∷ map (λ z. cond (p z) y z) xs) at.0 ∙ ap (λ zs. x ∷ zs) (unchanged p y xs at.1)

-- ---- what is in the slots

pub nobody : {A : Type 0} (p : A → Bool) (slots : List (Option A)) → count_by (λ s. passes p s) slots ≡ 0 → count_by p (rows_in slots) ≡ 0
nobody p [] h = refl
nobody p (None ∷ slots) h = nobody p slots (none_here (λ s. passes p s) None slots false refl h).1
nobody p (Some x ∷ slots) h =
    let at = none_here (λ s. passes p s) (Some x) slots (p x) refl h in
    omega (arith, count-cons p x (rows_in slots) ∙ ap (λ b. cond {A = ℕ} b 1 0 + count_by p (rows_in slots)) at.0, nobody p slots at.1)

counted_in : {A : Type 0} (p : A → Bool) (slots : List (Option A)) (i : ℕ) (row : A) → slice_get slots i ≡ Some (Some row) → p row ≡ true → 1 ≤ count_by p (rows_in slots)
counted_in p [] i row e b = absurd (cc)
counted_in p (None ∷ slots) zero row e b = absurd (cc)
counted_in p (Some x ∷ slots) zero row e b =
    let is : x ≡ row = search (rules, e) in
    omega (arith, count-true p x (rows_in slots) (ap p is ∙ b))
counted_in p (None ∷ slots) (suc i) row e b = counted_in p slots i row e b
counted_in p (Some x ∷ slots) (suc i) row e b = omega (arith, count-cons p x (rows_in slots), counted_in p slots i row e b)

-- no other row passes before one that does
before : {A : Type 0} (p : A → Bool) (x : A) (slots : List (Option A)) (i : ℕ) (row : A) (b : Bool) → p x ≡ b → slice_get slots i ≡ Some (Some row) → p row ≡ true → count_by p (x ∷ rows_in slots) ≤ 1 → (b ≡ false) × (count_by p (rows_in slots) ≤ 1)
before p x slots i row true h e own once = absurd (omega (arith, count-true p x (rows_in slots) h, counted_in p slots i row e own, once))
before p x slots i row false h e own once = (refl, omega (arith, count-cons p x (rows_in slots), once))

only_one : {A : Type 0} (p : A → Bool) (x : A) (slots : List (Option A)) → p x ≡ true → count_by p (x ∷ rows_in slots) ≤ 1 → count_by p (rows_in slots) ≡ 0
only_one p x slots h once = omega (arith, count-true p x (rows_in slots) h, once)

find_in : {A : Type 0} (p : A → Bool) (slots : List (Option A)) (i : ℕ) (row : A) → slice_get slots i ≡ Some (Some row) → p row ≡ true → count_by p (rows_in slots) ≤ 1 → Some row ≡ find p (rows_in slots)
find_in p [] i row e own once = absurd (cc)
find_in p (None ∷ slots) zero row e own once = absurd (cc)
find_in p (Some x ∷ slots) zero row e own once =
    let is : x ≡ row = search (rules, e) in
    ap Some (sym is) ∙ sym (find-true p x (rows_in slots) (ap p is ∙ own))
find_in p (None ∷ slots) (suc i) row e own once = find_in p slots i row e own once
find_in p (Some x ∷ slots) (suc i) row e own once =
    let at = before p x slots i row (p x) refl e own once in
    find_in p slots i row e own at.1 ∙ sym (find-false p x (rows_in slots) at.0)

empty_at : {A : Type 0} (p : A → Bool) (slots : List (Option A)) (i : ℕ) (row : A) → slice_get slots i ≡ Some (Some row) → p row ≡ true → count_by p (rows_in slots) ≤ 1 → rows_in (slice_set slots i None) ≡ filter (λ x. not (p x)) (rows_in slots)
empty_at p [] i row e own once = absurd (cc)
empty_at p (None ∷ slots) zero row e own once = absurd (cc)
empty_at p (Some x ∷ slots) zero row e own once =
    let own : p x ≡ true = ap p (search (rules, e)) ∙ own in
    sym (filter-true p x (rows_in slots) own ∙ without_none p (rows_in slots) (only_one p x slots own once))
empty_at p (None ∷ slots) (suc i) row e own once = empty_at p slots i row e own once
empty_at p (Some x ∷ slots) (suc i) row e own once =
    let at = before p x slots i row (p x) refl e own once in
    ap (λ xs. x ∷ xs) (empty_at p slots i row e own at.1) ∙ sym (filter-false p x (rows_in slots) at.0)

fill_at : {A : Type 0} (p : A → Bool) (slots : List (Option A)) (i : ℕ) (row new : A) → slice_get slots i ≡ Some (Some row) → p row ≡ true → count_by p (rows_in slots) ≤ 1 → rows_in (slice_set slots i (Some new)) ≡ map (λ x. cond (p x) new x) (rows_in slots)
fill_at p [] i row new e own once = absurd (cc)
fill_at p (None ∷ slots) zero row new e own once = absurd (cc)
fill_at p (Some x ∷ slots) zero row new e own once =
    let own : p x ≡ true = ap p (search (rules, e)) ∙ own in
    sym (ap (λ b. cond b new x ∷ map (λ y. cond (p y) new y) (rows_in slots)) own ∙ ap (λ ys. new ∷ ys) (unchanged p new (rows_in slots) (only_one p x slots own once)))
fill_at p (None ∷ slots) (suc i) row new e own once = fill_at p slots i row new e own once
fill_at p (Some x ∷ slots) (suc i) row new e own once =
    let at = before p x slots i row (p x) refl e own once in
    ap (λ xs. x ∷ xs) (fill_at p slots i row new e own at.1) ∙ sym (ap (λ b. cond b new x ∷ map (λ y. cond (p y) new y) (rows_in slots)) at.0)

fewer_at : {A : Type 0} (slots : List (Option A)) (i : ℕ) (row : A) → slice_get slots i ≡ Some (Some row) → 1 + length (rows_in (slice_set slots i None)) ≡ length (rows_in slots)
fewer_at [] i row e = absurd (cc)
fewer_at (None ∷ slots) zero row e = absurd (cc)
fewer_at (Some x ∷ slots) zero row e = omega (arith)
fewer_at (None ∷ slots) (suc i) row e = fewer_at slots i row e
fewer_at (Some x ∷ slots) (suc i) row e = omega (arith, fewer_at slots i row e)

as_many_at : {A : Type 0} (slots : List (Option A)) (i : ℕ) (row new : A) → slice_get slots i ≡ Some (Some row) → length (rows_in (slice_set slots i (Some new))) ≡ length (rows_in slots)
as_many_at [] i row new e = absurd (cc)
as_many_at (None ∷ slots) zero row new e = absurd (cc)
as_many_at (Some x ∷ slots) zero row new e = refl
as_many_at (None ∷ slots) (suc i) row new e = as_many_at slots i row new e
as_many_at (Some x ∷ slots) (suc i) row new e = ap suc (as_many_at slots i row new e)

-- ---- a slot that was found

slot_here : {A : Type 0} (number : A → ℕ) (n : ℕ) (slots : List (Option A)) (place : ℕ) (slot : Option A) → slice_get slots place ≡ Some slot → passes (bears number n) slot ≡ true → HasSlot number n slots (Some place)
slot_here number n slots place None e b = absurd (cc)
slot_here number n slots place (Some row) e b = (row, e, b)

pub by_position : {A : Type 0} (number : A → ℕ) (n : ℕ) (slots : List (Option A)) (r : Option ℕ) → position (λ s. passes (bears number n) s) slots ≡ r → HasSlot number n slots r
by_position number n slots None e = nobody (bears number n) slots (none_counted (λ s. passes (bears number n) s) slots e)
by_position number n slots (Some place) e =
    let at = position-Some (λ s. passes (bears number n) s) slots place None e in
    slot_here number n slots place (get_or slots place None) (get_is slots place None at.0) at.1

pub found_row : {A : Type 0} (number : A → ℕ) (n : ℕ) (slots : List (Option A)) (r : Option ℕ) → HasSlot number n slots r → count_by (bears number n) (rows_in slots) ≤ 1 → row_at slots r ≡ find (bears number n) (rows_in slots)
found_row number n slots None h once = sym (find_none (bears number n) (rows_in slots) h)
found_row number n slots (Some place) h once = ap row_of h.1 ∙ find_in (bears number n) slots place h.0 h.1 h.2 once

pub taken_row : {A : Type 0} (number : A → ℕ) (n : ℕ) (slots : List (Option A)) (r : Option ℕ) → HasSlot number n slots r → count_by (bears number n) (rows_in slots) ≤ 1 → rows_in (emptied slots r) ≡ filter (λ x. not (bears number n x)) (rows_in slots)
taken_row number n slots None h once = sym (without_none (bears number n) (rows_in slots) h)
taken_row number n slots (Some place) h once = empty_at (bears number n) slots place h.0 h.1 h.2 once

pub put_row : {A : Type 0} (number : A → ℕ) (n : ℕ) (slots : List (Option A)) (r : Option ℕ) (new : A) → HasSlot number n slots r → count_by (bears number n) (rows_in slots) ≤ 1 → rows_in (filled slots r new) ≡ map (λ x. cond (bears number n x) new x) (rows_in slots)
put_row number n slots None new h once = sym (unchanged (bears number n) new (rows_in slots) h)
put_row number n slots (Some place) new h once = fill_at (bears number n) slots place h.0 new h.1 h.2 once

pub as_many : {A : Type 0} (number : A → ℕ) (n : ℕ) (slots : List (Option A)) (r : Option ℕ) (new : A) → HasSlot number n slots r → length (rows_in (filled slots r new)) ≡ length (rows_in slots)
as_many number n slots None new h = refl
as_many number n slots (Some place) new h = as_many_at slots place h.0 new h.1

row_there : {A : Type 0} (slots : List (Option A)) (place : ℕ) (o : Option (Option A)) (row : A) → slice_get slots place ≡ o → row_of o ≡ Some row → slice_get slots place ≡ Some (Some row)
row_there slots place None row e f = absurd (cc)
row_there slots place (Some slot) row e f = e ∙ ap Some f

pub one_fewer : {A : Type 0} (slots : List (Option A)) (r : Option ℕ) (row : A) → row_at slots r ≡ Some row → 1 + length (rows_in (emptied slots r)) ≡ length (rows_in slots)
one_fewer slots None row e = absurd (cc)
one_fewer slots (Some place) row e = fewer_at slots place row (row_there slots place (slice_get slots place) row refl e)

pub fewer_rows : {A : Type 0} (slots : List (Option A)) → length (rows_in slots) ≤ length slots
fewer_rows [] = omega (arith)
fewer_rows (None ∷ slots) = omega (arith, fewer_rows slots)
fewer_rows (Some x ∷ slots) = omega (arith, fewer_rows slots)

-- ---- a row more

pub one_behind : {A : Type 0} (slots : List (Option A)) (row : A) → rows_in (slots ++ Some row ∷ []) ≡ rows_in slots ++ row ∷ []
one_behind [] row = refl
one_behind (None ∷ slots) row = one_behind slots row
one_behind (Some x ∷ slots) row = ap (λ xs. x ∷ xs) (one_behind slots row)

-- ---- empty slots that go

pub closed_up : {A : Type 0} (slots : List (Option A)) → rows_in (filter is_some slots) ≡ rows_in slots
closed_up [] = refl
closed_up (None ∷ slots) = closed_up slots
closed_up (Some x ∷ slots) = ap (λ xs. x ∷ xs) (closed_up slots)

pub all_full : {A : Type 0} (slots : List (Option A)) → length (filter is_some slots) ≡ length (rows_in slots)
all_full [] = refl
all_full (None ∷ slots) = all_full slots
all_full (Some x ∷ slots) = ap suc (all_full slots)

-- ---- as many slots as before

set_long : {A : Type 0} (xs : List A) (i : ℕ) (x : A) → length (slice_set xs i x) ≡ length xs
set_long xs i x = search rules

pub as_long : {A : Type 0} (slots : List (Option A)) (r : Option ℕ) → length (emptied slots r) ≡ length slots
as_long slots None = refl
as_long slots (Some place) = set_long slots place None

pub as_long_filled : {A : Type 0} (slots : List (Option A)) (r : Option ℕ) (row : A) → length (filled slots r row) ≡ length slots
as_long_filled slots None row = refl
as_long_filled slots (Some place) row = set_long slots place (Some row)

pub one_longer : {A : Type 0} (xs ys : List A) (x : A) → ys ≡ xs ++ x ∷ [] → length ys ≡ length xs + 1
one_longer xs ys x e = ap length e ∙ length-append xs (x ∷ [])

-- ---- walks over the slots

pub is_there : {A : Type 0} (p : A → Bool) (xs : List A) → is_some (find p xs) ≡ list_any p xs
is_there p [] = refl
is_there p (x ∷ xs) = of (p x) (is_there p xs)
  where
    of : (b : Bool) → is_some (find p xs) ≡ list_any p xs → is_some (cond b (Some x) (find p xs)) ≡ (b || list_any p xs)
    of true h = refl
    of false h = h

count_step : {A : Type 0} (p : A → Bool) (x : A) (slots : List (Option A)) → count_by (λ s. passes p s) slots ≡ count_by p (rows_in slots) → count_by (λ s. passes p s) (Some x ∷ slots) ≡ count_by p (x ∷ rows_in slots)
count_step p x slots h = count-cons (λ s. passes p s) (Some x) slots ∙ (ap (λ n. cond {A = ℕ} (p x) 1 0 + n) h ∙ sym (count-cons p x (rows_in slots)))

pub counted_slots : {A : Type 0} (p : A → Bool) (slots : List (Option A)) → count_by (λ s. passes p s) slots ≡ count_by p (rows_in slots)
counted_slots p [] = refl
counted_slots p (None ∷ slots) = omega (arith, count-cons (λ s. passes p s) None slots, counted_slots p slots)
counted_slots p (Some x ∷ slots) = count_step p x slots (counted_slots p slots)

pub found_slot : {A : Type 0} (p : A → Bool) (slots : List (Option A)) → row_of (find (λ s. passes p s) slots) ≡ find p (rows_in slots)
found_slot p [] = refl
found_slot p (None ∷ slots) = found_slot p slots
found_slot p (Some x ∷ slots) = of (p x) (found_slot p slots)
  where
    of : (b : Bool) → row_of (find (λ s. passes p s) slots) ≡ find p (rows_in slots) → row_of (cond b (Some (Some x)) (find (λ s. passes p s) slots)) ≡ cond b (Some x) (find p (rows_in slots))
    of true h = refl
    of false h = h

pub first_slot : {A : Type 0} (slots : List (Option A)) → row_of (find is_some slots) ≡ find (λ x. true) (rows_in slots)
first_slot [] = refl
first_slot (None ∷ slots) = first_slot slots
first_slot (Some x ∷ slots) = refl

pub count_most : {A : Type 0} (p : A → Bool) (xs : List A) → count_by p xs ≤ length xs
count_most p [] = omega (arith)
count_most p (x ∷ xs) = most (p x) (count-cons p x xs) (count_most p xs)
  where
    most : (b : Bool) → count_by p (x ∷ xs) ≡ cond {A = ℕ} b 1 0 + count_by p xs → count_by p xs ≤ length xs → count_by p (x ∷ xs) ≤ suc (length xs)
    most true e h = omega (arith, e, h)
    most false e h = omega (arith, e, h)

-- ---- a slot more of those that are walked over

pub rows-append : {A : Type 0} (xs ys : List (Option A)) → rows_in (xs ++ ys) ≡ rows_in xs ++ rows_in ys
rows-append [] ys = refl
rows-append (None ∷ xs) ys = rows-append xs ys
rows-append (Some x ∷ xs) ys = ap (λ zs. x ∷ zs) (rows-append xs ys)

pub slot_taken : {A : Type 0} (slots : List (Option A)) (place : ℕ) (slot : Option A) → slot ≡ get_or slots place slot → place < length slots → take (place + 1) slots ≡ take place slots ++ slot ∷ []
slot_taken slots place slot e within = more_taken slots place slot within ∙ ap (λ s. take place slots ++ s ∷ []) (sym e)

pub one_walked : {A : Type 0} (slots : List (Option A)) (place : ℕ) (slot : Option A) → slot ≡ get_or slots place slot → place < length slots → rows_in (take (place + 1) slots) ≡ rows_in (take place slots) ++ rows_in (slot ∷ [])
one_walked slots place slot e within = ap rows_in (slot_taken slots place slot e within) ∙ rows-append (take place slots) (slot ∷ [])
