-- Places in a list of rows that each bear a number of their own.
use Rattle.std.proofs.Common.{get_or, ◌≡◌, ℕ, suc, zero, ◌+◌, ◌≤◌, ◌<◌, Bool, true, false, List, [], ◌∷◌, ◌++◌, length, take, Option, None, Some, cond, refl, sym, ap, ◌∙◌, subst, arith}
use Rattle.std.specs.Prelude.{remove, position, find, filter, not, count_by, slice_get, ◌||◌, is_some}
use Rattle.std.specs.List.{position_or_len, list_any}
use Rattle.std.proofs.lemmas.List.Quantifiers.{position-Some}
use Rattle.std.proofs.lemmas.List.Sums.{sum_by-append, sum_by-cons, get_or-le-sum_by}
use Rattle.std.proofs.Math.Dec.{ltb}
use Rattle.std.proofs.lemmas.Bool.Decides.{nat_tests}
use Rattle.std.proofs.lemmas.Grind.{common_steps}
use Rattle.std.proofs.lemmas.List.Folds.{find_at}

-- ---- counts

abbrev one : Bool → ℕ
one b = cond b 1 0

pub count-cons : {A : Type 0} (p : A → Bool) (x : A) (xs : List A) → count_by p (x ∷ xs) ≡ one (p x) + count_by p xs
count-cons p x xs = sum_by-cons (λ y. cond (p y) 1 0) x xs

pub count-append : {A : Type 0} (p : A → Bool) (xs ys : List A) → count_by p (xs ++ ys) ≡ count_by p xs + count_by p ys
count-append p xs ys = sum_by-append (λ y. cond (p y) 1 0) xs ys

-- ---- the tickets before a client's

-- a place that is found lies in the list, and what is found stands there
pub place_in : (n len i : ℕ) (b : Bool) → ltb n len ≡ b → cond b (Some n) None ≡ Some i → (i ≡ n) × (n < len)
place_in n len i true e h = (cc, grind (arith, nat_tests))
place_in n len i false e h = cc

pub found_within : {A : Type 0} (p : A → Bool) (xs : List A) (i : ℕ) → position p xs ≡ Some i → i < length xs
found_within p xs i e = let at = place_in _ _ i _ refl e in omega arith

-- ---- one row taken out

pub none_here : {A : Type 0} (p : A → Bool) (x : A) (xs : List A) (b : Bool) → p x ≡ b → count_by p (x ∷ xs) ≡ 0 → (b ≡ false) × (count_by p xs ≡ 0)
none_here p x xs b e h = let counted : count_by p (x ∷ xs) ≡ one b + count_by p xs = subst (λ (v : Bool). count_by p (x ∷ xs) ≡ one v + count_by p xs) e (count-cons p x xs) in none_of b counted
  where
    none_of : (v : Bool) → count_by p (x ∷ xs) ≡ one v + count_by p xs → (v ≡ false) × (count_by p xs ≡ 0)
    none_of true c = absurd (omega arith)
    none_of false c = (refl, omega arith)

pub without_none : {A : Type 0} (p : A → Bool) (xs : List A) → count_by p xs ≡ 0 → filter (λ x. not (p x)) xs ≡ xs
without_none p [] h = refl
without_none p (x ∷ xs) h =
    let at : (p x ≡ false) × (count_by p xs ≡ 0) = none_here p x xs (p x) refl h in
    subst (λ (b : Bool). cond (not b) (x ∷ filter (λ y. not (p y)) xs) (filter (λ y. not (p y)) xs) ≡ x ∷ xs) (sym at.0) (ap (λ ys. x ∷ ys) (without_none p xs at.1))

at_least_one : {A : Type 0} (p : A → Bool) (xs : List A) (i : ℕ) (d : A) → i < length xs → p (get_or xs i d) ≡ true → 1 ≤ count_by p xs
at_least_one p xs i d h e = subst (λ (b : Bool). one b ≤ count_by p xs) e (get_or-le-sum_by (λ y. cond (p y) 1 0) xs i d h)

pub one_more : {A : Type 0} (p : A → Bool) (x : A) (xs : List A) (b : Bool) → p x ≡ b → 1 ≤ count_by p xs → count_by p (x ∷ xs) ≤ 1 → (b ≡ false) × (count_by p xs ≤ 1)
one_more p x xs b e l h = let counted : count_by p (x ∷ xs) ≡ one b + count_by p xs = subst (λ (v : Bool). count_by p (x ∷ xs) ≡ one v + count_by p xs) e (count-cons p x xs) in of b counted
  where
    of : (v : Bool) → count_by p (x ∷ xs) ≡ one v + count_by p xs → (v ≡ false) × (count_by p xs ≤ 1)
    of true c = absurd (omega arith)
    of false c = (refl, omega arith)

-- where one row passes, to take it out is to leave out all that pass
pub remove_one : {A : Type 0} (p : A → Bool) (xs : List A) (i : ℕ) (d : A) → i < length xs → p (get_or xs i d) ≡ true → count_by p xs ≤ 1 → remove xs i ≡ filter (λ x. not (p x)) xs
remove_one p [] i d h e o = absurd (omega arith)
remove_one p (x ∷ xs) zero d h e o =
    let counted : count_by p (x ∷ xs) ≡ one (p x) + count_by p xs = count-cons p x xs in
    let none : count_by p xs ≡ 0 = omega (arith, subst (λ (b : Bool). count_by p (x ∷ xs) ≡ one b + count_by p xs) e counted) in
    sym (subst (λ (b : Bool). cond (not b) (x ∷ filter (λ y. not (p y)) xs) (filter (λ y. not (p y)) xs) ≡ xs) (sym e) (without_none p xs none))
remove_one p (x ∷ xs) (suc i) d h e o =
    let within : i < length xs = omega arith in
    let at : (p x ≡ false) × (count_by p xs ≤ 1) = one_more p x xs (p x) refl (at_least_one p xs i d within e) o in
    sym (subst (λ (b : Bool). cond (not b) (x ∷ filter (λ y. not (p y)) xs) (filter (λ y. not (p y)) xs) ≡ x ∷ remove xs i) (sym at.0) (ap (λ ys. x ∷ ys) (sym (remove_one p xs i d within e at.1))))

-- ---- a place more

pub more_taken : {A : Type 0} (xs : List A) (i : ℕ) (d : A) → i < length xs → take (i + 1) xs ≡ take i xs ++ get_or xs i d ∷ []
more_taken xs i d h = grind (arith, common_steps)

pub get_is : {A : Type 0} (xs : List A) (i : ℕ) (d : A) → i < length xs → slice_get xs i ≡ Some (get_or xs i d)
get_is [] i d h = absurd (omega arith)
get_is (x ∷ xs) zero d h = refl
get_is (x ∷ xs) (suc i) d h = get_is xs i d (omega arith)

-- ---- whether one passes

any_place : {A : Type 0} (p : A → Bool) (xs : List A) → ltb (position_or_len p xs) (length xs) ≡ list_any p xs
any_place p [] = refl
any_place p (x ∷ xs) = go (p x) (any_place p xs)
  where
    next : (n len : ℕ) → ltb (1 + n) (suc len) ≡ ltb n len
    next n len = grind (arith, nat_tests)

    first : (len : ℕ) → ltb 0 (suc len) ≡ true
    first len = grind (arith, nat_tests)

    go : (b : Bool) → ltb (position_or_len p xs) (length xs) ≡ list_any p xs → ltb (cond (not b) (1 + position_or_len p xs) 0) (length (x ∷ xs)) ≡ (b || list_any p xs)
    go true ih = first (length xs)
    go false ih = next (position_or_len p xs) (length xs) ∙ ih

some_if : (b : Bool) (n : ℕ) → is_some (cond b (Some n) None) ≡ b
some_if true n = refl
some_if false n = refl

pub is_there : {A : Type 0} (p : A → Bool) (xs : List A) → is_some (position p xs) ≡ list_any p xs
is_there p xs = some_if (ltb (position_or_len p xs) (length xs)) (position_or_len p xs) ∙ any_place p xs

none_any : {A : Type 0} (p : A → Bool) (xs : List A) → list_any p xs ≡ false → count_by p xs ≡ 0
none_any p [] e = refl
none_any p (x ∷ xs) e = go (p x) refl e (none_any p xs)
  where
    go : (b : Bool) → p x ≡ b → (b || list_any p xs) ≡ false → (list_any p xs ≡ false → count_by p xs ≡ 0) → count_by p (x ∷ xs) ≡ 0
    go true f g ih = cc
    go false f g ih = omega (arith, ih g, subst (λ (v : Bool). count_by p (x ∷ xs) ≡ one v + count_by p xs) f (count-cons p x xs))

pub none_counted : {A : Type 0} (p : A → Bool) (xs : List A) → position p xs ≡ None → count_by p xs ≡ 0
none_counted p xs e = none_any p xs (sym (is_there p xs) ∙ ap (λ (o : Option ℕ). is_some o) e)

-- ---- one row taken out by its place

pub removed_one : {A : Type 0} (p : A → Bool) (xs : List A) (i : ℕ) → position p xs ≡ Some i → count_by p xs ≤ 1 → remove xs i ≡ filter (λ x. not (p x)) xs
removed_one p [] i e o = absurd (omega (arith, found_within p [] i e))
removed_one p (x ∷ xs) i e o = let at = position-Some p (x ∷ xs) i x e in remove_one p (x ∷ xs) i x at.0 at.1 o

pub removed_none : {A : Type 0} (p : A → Bool) (xs : List A) → position p xs ≡ None → xs ≡ filter (λ x. not (p x)) xs
removed_none p xs e = sym (without_none p xs (none_counted p xs e))

-- ---- what is found by its place

nowhere : {A : Type 0} (xs : List A) (i : ℕ) → length xs ≤ i → slice_get xs i ≡ None
nowhere [] i h = refl
nowhere (x ∷ xs) zero h = absurd (omega arith)
nowhere (x ∷ xs) (suc i) h = nowhere xs i (omega arith)

beyond : (n len : ℕ) (b : Bool) → ltb n len ≡ b → cond b (Some n) None ≡ None → len ≤ n
beyond n len true e h = cc
beyond n len false e h = grind (arith, nat_tests)

pub found : {A : Type 0} (p : A → Bool) (xs : List A) (i : ℕ) → position p xs ≡ Some i → (i < length xs) × (find p xs ≡ slice_get xs i)
found p xs i e =
    let at : (i ≡ position_or_len p xs) × (position_or_len p xs < length xs) = place_in _ _ i _ refl e in
    (omega arith, find_at p xs ∙ ap (slice_get xs) (sym at.0))

pub not_found : {A : Type 0} (p : A → Bool) (xs : List A) → position p xs ≡ None → find p xs ≡ None
not_found p xs e = find_at p xs ∙ nowhere xs _ (beyond _ _ _ refl e)

pub at_place : {A : Type 0} (p : A → Bool) (xs : List A) (i : ℕ) (x : A) → position p xs ≡ Some i → x ≡ get_or xs i x → find p xs ≡ Some x
at_place p xs i x e g = let at = found p xs i e in at.1 ∙ (get_is xs i x at.0 ∙ ap Some (sym g))
