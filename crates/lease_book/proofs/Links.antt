-- A link taken out of the idle ones.
use Rattle.std.proofs.Common.{get_or, ◌≡◌, ℕ, suc, zero, ◌+◌, ◌≤◌, ◌<◌, Bool, true, false, List, [], ◌∷◌, length, None, Some, cond, refl, sym, ap, ◌∙◌, subst, arith}
use Rattle.std.specs.Prelude.{remove, position, filter, find, not, count_by, ◌||◌, slice_get, slice_index_or}
use Rattle.std.specs.List.{position_or_len, list_any}
use Rattle.std.proofs.Math.Dec.{ltb}
use Rattle.std.proofs.lemmas.Bool.Decides.{nat_tests}
use Rattle.std.proofs.lemmas.List.Folds.{find_at, list_any_none}
use Rattle.std.proofs.lemmas.List.Sums.{sum_by-cons, get_or-le-sum_by, passes_at_first, fails_before_first}
use Rattle.link_run.specs.Links.{LinkView}
use Rattle.lease_book.specs.Links.{is_numbered}

at_place : (n len i : ℕ) (b : Bool) → ltb n len ≡ b → cond b (Some n) None ≡ Some i → (i ≡ n) × (n < len)
at_place n len i true e h = (cc, grind (arith, nat_tests))
at_place n len i false e h = cc

beyond : (n len : ℕ) (b : Bool) → ltb n len ≡ b → cond b (Some n) None ≡ None → len ≤ n
beyond n len true e h = cc
beyond n len false e h = grind (arith, nat_tests)

get_is : {A : Type 0} (xs : List A) (i : ℕ) (d : A) → i < length xs → slice_get xs i ≡ Some (get_or xs i d)
get_is [] i d h = absurd (omega arith)
get_is (x ∷ xs) zero d h = refl
get_is (x ∷ xs) (suc i) d h = get_is xs i d (omega arith)

get_none : {A : Type 0} (xs : List A) (i : ℕ) → length xs ≤ i → slice_get xs i ≡ None
get_none [] i h = refl
get_none (x ∷ xs) zero h = absurd (omega arith)
get_none (x ∷ xs) (suc i) h = get_none xs i (omega arith)

pub count-cons : {A : Type 0} (p : A → Bool) (x : A) (xs : List A) → count_by p (x ∷ xs) ≡ cond (p x) 1 0 + count_by p xs
count-cons p x xs = sum_by-cons (λ y. cond (p y) 1 0) x xs

pub none_of : (b : Bool) (n : ℕ) → cond {A = ℕ} b 1 0 + n ≡ 0 → (b ≡ false) × (n ≡ 0)
none_of true n h = absurd (omega arith)
none_of false n h = (refl, omega arith)

pub one_of : (b : Bool) (n : ℕ) → cond {A = ℕ} b 1 0 + n ≤ 1 → 1 ≤ n → (b ≡ false) × (n ≤ 1)
one_of true n h l = absurd (omega arith)
one_of false n h l = (refl, omega arith)

pub without_none : {A : Type 0} (p : A → Bool) (xs : List A) → count_by p xs ≡ 0 → filter (λ x. not (p x)) xs ≡ xs
without_none p [] h = refl
without_none p (x ∷ xs) h =
    let at = none_of (p x) (count_by p xs) (sym (count-cons p x xs) ∙ h) in
    subst (λ (b : Bool). cond (not b) (x ∷ filter (λ y. not (p y)) xs) (filter (λ y. not (p y)) xs) ≡ x ∷ xs) (sym at.0) (ap (λ ys. x ∷ ys) (without_none p xs at.1))

at_least_one : {A : Type 0} (p : A → Bool) (xs : List A) (i : ℕ) (d : A) → i < length xs → p (get_or xs i d) ≡ true → 1 ≤ count_by p xs
at_least_one p xs i d h e = subst (λ (b : Bool). cond {A = ℕ} b 1 0 ≤ count_by p xs) e (get_or-le-sum_by (λ y. cond (p y) 1 0) xs i d h)

-- where one passes, to take it out is to leave out all that pass
remove_one : {A : Type 0} (p : A → Bool) (xs : List A) (i : ℕ) (d : A) → i < length xs → p (get_or xs i d) ≡ true → count_by p xs ≤ 1 → remove xs i ≡ filter (λ x. not (p x)) xs
remove_one p [] i d h e o = absurd (omega arith)
remove_one p (x ∷ xs) zero d h e o =
    let counted : cond (p x) 1 0 + count_by p xs ≤ 1 = subst (λ (k : ℕ). k ≤ 1) (count-cons p x xs) o in
    let here : 1 + count_by p xs ≤ 1 = subst (λ (b : Bool). cond {A = ℕ} b 1 0 + count_by p xs ≤ 1) e counted in
    sym (subst (λ (b : Bool). cond (not b) (x ∷ filter (λ y. not (p y)) xs) (filter (λ y. not (p y)) xs) ≡ xs) (sym e) (without_none p xs (omega (arith, here))))
remove_one p (x ∷ xs) (suc i) d h e o =
    let within : i < length xs = omega arith in
    let counted : cond (p x) 1 0 + count_by p xs ≤ 1 = subst (λ (k : ℕ). k ≤ 1) (count-cons p x xs) o in
    let at : (p x ≡ false) × (count_by p xs ≤ 1) = one_of (p x) (count_by p xs) counted (at_least_one p xs i d within e) in
    sym (subst (λ (b : Bool). cond (not b) (x ∷ filter (λ y. not (p y)) xs) (filter (λ y. not (p y)) xs) ≡ x ∷ remove xs i) (sym at.0) (ap (λ ys. x ∷ ys) (sym (remove_one p xs i d within e at.1))))

zero_of : (b : Bool) (n m : ℕ) → n ≡ cond {A = ℕ} b 1 0 + m → b ≡ false → m ≡ 0 → n ≡ 0
zero_of true n m c e z = cc
zero_of false n m c e z = omega (arith, c, z)

pub or_left : (a b : Bool) → (a || b) ≡ false → a ≡ false
or_left true b e = cc
or_left false b e = refl

pub or_right : (a b : Bool) → (a || b) ≡ false → b ≡ false
or_right true b e = cc
or_right false b e = e

pub none_counted : {A : Type 0} (p : A → Bool) (xs : List A) → list_any p xs ≡ false → count_by p xs ≡ 0
none_counted p [] h = refl
none_counted p (x ∷ xs) h = zero_of (p x) (count_by p (x ∷ xs)) (count_by p xs) (count-cons p x xs) (or_left (p x) _ h) (none_counted p xs (or_right (p x) _ h))

-- ---- as `take` says it

pub found_at : (links : List LinkView) (n place : ℕ) (r : LinkView) → position (is_numbered n) links ≡ Some place → r ≡ slice_index_or links place r → Some r ≡ find (is_numbered n) links
found_at links n place r e is =
    let at = at_place (position_or_len (is_numbered n) links) (length links) place _ refl e in
    sym (find_at (is_numbered n) links ∙ ap (slice_get links) (sym at.0) ∙ get_is links place r (omega (arith, at.0, at.1)) ∙ ap (λ (l : LinkView). Some l) (sym is))

pub left_at : (links rest : List LinkView) (n place : ℕ) (r : LinkView) → position (is_numbered n) links ≡ Some place → rest ≡ remove links place → ((m : ℕ) → count_by (is_numbered m) links ≤ 1) → rest ≡ filter (λ l. not (is_numbered n l)) links
left_at links rest n place r e is once =
    let at = at_place (position_or_len (is_numbered n) links) (length links) place _ refl e in
    let within : place < length links = omega (arith, at.0, at.1) in
    let passes : is_numbered n (get_or links place r) ≡ true = subst (λ (j : ℕ). is_numbered n (get_or links j r) ≡ true) (sym at.0) (passes_at_first (is_numbered n) links r at.1) in
    is ∙ remove_one (is_numbered n) links place r within passes (once n)

pub none_at : (links : List LinkView) (n : ℕ) → position (is_numbered n) links ≡ None → None ≡ find (is_numbered n) links
none_at links n e = sym (find_at (is_numbered n) links ∙ get_none links _ (beyond (position_or_len (is_numbered n) links) (length links) _ refl e))

pub all_at : (links : List LinkView) (n : ℕ) → position (is_numbered n) links ≡ None → links ≡ filter (λ l. not (is_numbered n l)) links
all_at links n e =
    let b = beyond (position_or_len (is_numbered n) links) (length links) _ refl e in
    sym (without_none (is_numbered n) links (none_counted (is_numbered n) links (list_any_none (is_numbered n) links (λ k d h. fails_before_first (is_numbered n) links k d (omega (arith, b, h))))))
