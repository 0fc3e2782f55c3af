-- How many of a list bear a number: what is counted after a row came, left, or changed its state.
use Rattle.std.proofs.Common.{◌≡◌, ℕ, suc, ◌+◌, ◌≤◌, ◌<◌, Bool, true, false, cond, not, ◌||◌, List, [], ◌∷◌, ◌++◌, length, filter, map, find, count_by, Option, None, Some, refl, sym, ap, ◌∙◌, subst, arith, le_refl, ◌==◌, eq-eqb, eqb-true}
use Rattle.std.specs.List.{list_any}
use Rattle.std.proofs.lemmas.List.Sums.{sum_by-cons, sum_by_push, length-filter}
use Rattle.std.proofs.lemmas.List.Filters.{length-filter_both}
use Rattle.std.proofs.lemmas.Bool.{true≢false}
use Rattle.std.proofs.lemmas.Option.{none-some, same_Some}
use Rattle.book_model.specs.Book.{find_last, or_else}

counted : {A : Type 0} (p : A → Bool) (x : A) (xs : List A) → count_by p (x ∷ xs) ≡ cond (p x) 1 0 + count_by p xs
counted p x xs = sum_by-cons (λ y. cond (p y) 1 0) x xs

pub counted_as : {A : Type 0} (p : A → Bool) (x : A) (xs : List A) (b : Bool) → p x ≡ b → count_by p (x ∷ xs) ≡ cond b 1 0 + count_by p xs
counted_as p x xs b e = counted p x xs ∙ ap (λ (v : Bool). cond v 1 0 + count_by p xs) e

passed : {A : Type 0} (p : A → Bool) (x : A) (xs : List A) → p x ≡ false → count_by p (x ∷ xs) ≡ count_by p xs
passed p x xs e = omega (arith, counted_as p x xs false e)

-- ---- one row more

pub one_more : {A : Type 0} (p : A → Bool) (xs : List A) (x : A) (b : Bool) → p x ≡ b → count_by p (xs ++ x ∷ []) ≡ count_by p xs + cond b 1 0
one_more p xs x b e = sum_by_push (λ y. cond (p y) 1 0) xs x ∙ ap (λ (v : Bool). count_by p xs + cond v 1 0) e

-- ---- without those that pass

none_left : {A : Type 0} (p : A → Bool) (xs : List A) → count_by p (filter (λ x. not (p x)) xs) ≡ 0
none_left p [] = refl
none_left p (x ∷ xs) = go (p x) refl (none_left p xs)
  where
    go : (b : Bool) → p x ≡ b → count_by p (filter (λ y. not (p y)) xs) ≡ 0 → count_by p (cond (not b) (x ∷ filter (λ y. not (p y)) xs) (filter (λ y. not (p y)) xs)) ≡ 0
    go true e r = r
    go false e r = passed p x (filter (λ y. not (p y)) xs) e ∙ r

-- what never passes with them is counted as before
others_left : {A : Type 0} (p q : A → Bool) → ((x : A) → q x ≡ true → p x ≡ false) → (xs : List A) → count_by q (filter (λ x. not (p x)) xs) ≡ count_by q xs
others_left p q apart [] = refl
others_left p q apart (x ∷ xs) = go (p x) (q x) refl refl (others_left p q apart xs)
  where
    go : (b c : Bool) → p x ≡ b → q x ≡ c → count_by q (filter (λ y. not (p y)) xs) ≡ count_by q xs → count_by q (cond (not b) (x ∷ filter (λ y. not (p y)) xs) (filter (λ y. not (p y)) xs)) ≡ count_by q (x ∷ xs)
    go false c e f r = counted q x (filter (λ y. not (p y)) xs) ∙ (ap (λ (n : ℕ). cond (q x) 1 0 + n) r ∙ sym (counted q x xs))
    go true false e f r = r ∙ sym (passed q x xs f)
    go true true e f r = absurd (true≢false (sym e ∙ apart x f))

pub fewer_left : {A : Type 0} (q r : A → Bool) (xs : List A) → count_by q (filter r xs) ≤ count_by q xs
fewer_left q r [] = le_refl 0
fewer_left q r (x ∷ xs) = go (r x) (fewer_left q r xs)
  where
    go : (b : Bool) → count_by q (filter r xs) ≤ count_by q xs → count_by q (cond b (x ∷ filter r xs) (filter r xs)) ≤ count_by q (x ∷ xs)
    go true l = omega (arith, l, counted q x (filter r xs), counted q x xs)
    go false l = omega (arith, l, counted q x xs)

pub length_left : {A : Type 0} (p : A → Bool) (xs : List A) → length (filter (λ x. not (p x)) xs) + count_by p xs ≡ length xs
length_left p xs = omega (arith, length-filter_both p (λ x. not (p x)) (λ x. refl) xs, length-filter p xs)

-- ---- rows by their numbers

-- those of one number are left out: the others count as before
pub left_out : {A : Type 0} (number : A → ℕ) (n m : ℕ) (xs : List A) (b : Bool) → (n == m) ≡ b → count_by (λ x. number x == m) (filter (λ x. not (number x == n)) xs) ≡ cond b 0 (count_by (λ x. number x == m) xs)
left_out number n m xs true e = subst (λ (k : ℕ). count_by (λ x. number x == k) (filter (λ x. not (number x == n)) xs) ≡ 0) (eqb-true n m e) (none_left (λ x. number x == n) xs)
left_out {A} number n m xs false e = others_left (λ x. number x == n) (λ x. number x == m) (λ x f. go x f (number x == n) refl) xs
  where
    go : (x : A) → (number x == m) ≡ true → (b : Bool) → (number x == n) ≡ b → b ≡ false
    go x f false g = refl
    go x f true g = absurd (true≢false (sym (eq-eqb n m (sym (eqb-true (number x) n g) ∙ eqb-true (number x) m f)) ∙ e))

-- rows are changed, their numbers stay
pub numbers_stay : {A : Type 0} (number : A → ℕ) (change : A → A) → ((x : A) → number (change x) ≡ number x) → (m : ℕ) (xs : List A) → count_by (λ x. number x == m) (map change xs) ≡ count_by (λ x. number x == m) xs
numbers_stay number change same m [] = refl
numbers_stay number change same m (x ∷ xs) =
    counted (λ y. number y == m) (change x) (map change xs) ∙
    (ap (λ (k : ℕ). cond (k == m) 1 0 + count_by (λ y. number y == m) (map change xs)) (same x) ∙
    (ap (λ (k : ℕ). cond (number x == m) 1 0 + k) (numbers_stay number change same m xs) ∙ sym (counted (λ y. number y == m) x xs)))

-- ---- what is found stands in the list

here : {A : Type 0} (q : A → Bool) (y x : A) (ys : List A) → y ≡ x → q x ≡ true → 1 ≤ count_by q (y ∷ ys)
here q y x ys e f = omega (arith, counted_as q y ys true (ap q e ∙ f))

later : {A : Type 0} (q : A → Bool) (y : A) (ys : List A) → 1 ≤ count_by q ys → 1 ≤ count_by q (y ∷ ys)
later q y ys l = omega (arith, l, counted q y ys)

pub found_counts : {A : Type 0} (test q : A → Bool) (xs : List A) (x : A) → find test xs ≡ Some x → q x ≡ true → 1 ≤ count_by q xs
found_counts test q [] x e f = absurd (none-some _ e)
found_counts test q (y ∷ ys) x e f = go (test y) e (found_counts test q ys x)
  where
    go : (b : Bool) → cond b (Some y) (find test ys) ≡ Some x → (find test ys ≡ Some x → q x ≡ true → 1 ≤ count_by q ys) → 1 ≤ count_by q (y ∷ ys)
    go true g ih = here q y x ys (same_Some _ _ g) f
    go false g ih = later q y ys (ih g f)

pub last_counts : {A : Type 0} (test q : A → Bool) (xs : List A) (x : A) → find_last test xs ≡ Some x → q x ≡ true → 1 ≤ count_by q xs
last_counts test q [] x e f = absurd (none-some _ e)
last_counts {A} test q (y ∷ ys) x e f = go (find_last test ys) refl (test y) e (last_counts test q ys x)
  where
    go : (o : Option A) → find_last test ys ≡ o → (b : Bool) → or_else o (cond b (Some y) None) ≡ Some x → (find_last test ys ≡ Some x → q x ≡ true → 1 ≤ count_by q ys) → 1 ≤ count_by q (y ∷ ys)
    go None g true h ih = here q y x ys (same_Some _ _ h) f
    go None g false h ih = absurd (none-some _ h)
    go (Some z) g b h ih = later q y ys (ih (g ∙ h) f)

pub any_counts : {A : Type 0} (p : A → Bool) (xs : List A) → list_any p xs ≡ true → 1 ≤ count_by p xs
any_counts p [] e = absurd (true≢false (sym e))
any_counts p (x ∷ xs) e = go (p x) refl e (any_counts p xs)
  where
    go : (b : Bool) → p x ≡ b → (b || list_any p xs) ≡ true → (list_any p xs ≡ true → 1 ≤ count_by p xs) → 1 ≤ count_by p (x ∷ xs)
    go true f h ih = here p x x xs refl f
    go false f h ih = later p x xs (ih h)

pub none_counts : {A : Type 0} (p : A → Bool) (xs : List A) → list_any p xs ≡ false → count_by p xs ≡ 0
none_counts p [] e = refl
none_counts p (x ∷ xs) e = go (p x) refl e (none_counts p xs)
  where
    go : (b : Bool) → p x ≡ b → (b || list_any p xs) ≡ false → (list_any p xs ≡ false → count_by p xs ≡ 0) → count_by p (x ∷ xs) ≡ 0
    go true f h ih = absurd (true≢false h)
    go false f h ih = passed p x xs f ∙ ih h

pub not_found : {A : Type 0} (p : A → Bool) (xs : List A) → find p xs ≡ None → list_any p xs ≡ false
not_found p [] e = refl
not_found p (x ∷ xs) e = go (p x) e (not_found p xs)
  where
    go : (b : Bool) → cond b (Some x) (find p xs) ≡ None → (find p xs ≡ None → list_any p xs ≡ false) → (b || list_any p xs) ≡ false
    go true h ih = absurd (none-some _ (sym h))
    go false h ih = ih h

pub found_any : {A : Type 0} (p : A → Bool) (xs : List A) (x : A) → find p xs ≡ Some x → list_any p xs ≡ true
found_any p [] x e = absurd (none-some _ e)
found_any p (y ∷ ys) x e = go (p y) e (found_any p ys x)
  where
    go : (b : Bool) → cond b (Some y) (find p ys) ≡ Some x → (find p ys ≡ Some x → list_any p ys ≡ true) → (b || list_any p ys) ≡ true
    go true h ih = refl
    go false h ih = ih h

-- ---- at most as many of each number

-- the first of a number is taken out
abbrev take_one : {A : Type 0} → (A → Bool) → List A → List A
take_one p [] = []
take_one p (x ∷ xs) = cond (p x) xs (x ∷ take_one p xs)

one_shorter : {A : Type 0} (p : A → Bool) (xs : List A) → 1 ≤ count_by p xs → suc (length (take_one p xs)) ≡ length xs
one_shorter p [] l = absurd (omega (arith, l))
one_shorter p (x ∷ xs) l = go (p x) refl (one_shorter p xs)
  where
    go : (b : Bool) → p x ≡ b → (1 ≤ count_by p xs → suc (length (take_one p xs)) ≡ length xs) → suc (length (cond b xs (x ∷ take_one p xs))) ≡ length (x ∷ xs)
    go true e ih = omega arith
    go false e ih = let k = ih (omega (arith, l, passed p x xs e)) in omega (arith, k)

one_fewer : {A : Type 0} (p q : A → Bool) (xs : List A) → count_by q xs ≤ suc (count_by q (take_one p xs))
one_fewer p q [] = omega arith
one_fewer p q (x ∷ xs) = go (p x) (q x) refl (one_fewer p q xs)
  where
    go : (b c : Bool) → q x ≡ c → count_by q xs ≤ suc (count_by q (take_one p xs)) → count_by q (x ∷ xs) ≤ suc (count_by q (cond b xs (x ∷ take_one p xs)))
    go true true e l = omega (arith, counted_as q x xs true e)
    go true false e l = omega (arith, counted_as q x xs false e)
    go false c e l = omega (arith, l, counted q x xs, counted q x (take_one p xs))

others_stay : {A : Type 0} (p q : A → Bool) → ((x : A) → p x ≡ true → q x ≡ false) → (xs : List A) → count_by q (take_one p xs) ≡ count_by q xs
others_stay p q apart [] = refl
others_stay p q apart (x ∷ xs) = go (p x) refl (others_stay p q apart xs)
  where
    go : (b : Bool) → p x ≡ b → count_by q (take_one p xs) ≡ count_by q xs → count_by q (cond b xs (x ∷ take_one p xs)) ≡ count_by q (x ∷ xs)
    go true e r = sym (passed q x xs (apart x e))
    go false e r = omega (arith, r, counted q x xs, counted q x (take_one p xs))

apart_by : {A : Type 0} (number : A → ℕ) (n m : ℕ) → (n == m) ≡ false → (x : A) → (number x == n) ≡ true → (number x == m) ≡ false
apart_by number n m e x f = go (number x == m) refl
  where
    go : (b : Bool) → (number x == m) ≡ b → b ≡ false
    go false g = refl
    go true g = absurd (true≢false (sym (eq-eqb n m (sym (eqb-true (number x) n f) ∙ eqb-true (number x) m g)) ∙ e))

-- where each number counts as often in the second list or more, it is as long or longer
pub as_long : {A : Type 0} {B : Type 0} (of : A → ℕ) (number : B → ℕ) (ts : List A) (cs : List B) → ((n : ℕ) → count_by (λ t. of t == n) ts ≤ count_by (λ c. number c == n) cs) → length ts ≤ length cs
as_long of number [] cs h = omega arith
as_long of number (t ∷ ts) cs h = omega (arith, one_shorter (λ c. number c == of t) cs there, as_long of number ts (take_one (λ c. number c == of t) cs) (λ n. rest n (of t == n) refl))
  where
    there : 1 ≤ count_by (λ c. number c == of t) cs
    there = omega (arith, h (of t), counted_as (λ u. of u == of t) t ts true (eq-eqb (of t) (of t) refl))

    rest : (n : ℕ) (b : Bool) → (of t == n) ≡ b → count_by (λ u. of u == n) ts ≤ count_by (λ c. number c == n) (take_one (λ c. number c == of t) cs)
    rest n true e = omega (arith, h n, counted_as (λ u. of u == n) t ts true e, one_fewer (λ c. number c == of t) (λ c. number c == n) cs)
    rest n false e = omega (arith, h n, counted_as (λ u. of u == n) t ts false e, others_stay (λ c. number c == of t) (λ c. number c == n) (apart_by number (of t) n e) cs)

-- and longer, where it has one that the first has not
pub longer : {A : Type 0} {B : Type 0} (of : A → ℕ) (number : B → ℕ) (k : ℕ) (ts : List A) (cs : List B) → ((n : ℕ) → count_by (λ t. of t == n) ts ≤ count_by (λ c. number c == n) cs) → count_by (λ t. of t == k) ts ≡ 0 → 1 ≤ count_by (λ c. number c == k) cs → length ts < length cs
longer of number k ts cs h none there = omega (arith, one_shorter (λ c. number c == k) cs there, as_long of number ts (take_one (λ c. number c == k) cs) (λ n. rest n (k == n) refl))
  where
    rest : (n : ℕ) (b : Bool) → (k == n) ≡ b → count_by (λ u. of u == n) ts ≤ count_by (λ c. number c == n) (take_one (λ c. number c == k) cs)
    rest n true e = omega (arith, subst (λ (m : ℕ). count_by (λ u. of u == m) ts ≡ 0) (eqb-true k n e) none)
    rest n false e = omega (arith, h n, others_stay (λ c. number c == k) (λ c. number c == n) (apart_by number k n e) cs)
