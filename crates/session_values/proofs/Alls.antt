-- A fact of each element of a list, through the operations on lists.
use Rattle.std.proofs.Common.{◌≡◌, ℕ, zero, suc, List, [], ◌∷◌, ◌++◌, take, drop, map, filter, find, set, get_or, Option, Some, None, refl, Bool, true, false, cond, ◌&&◌, ◌<◌, ltb-true}
use Rattle.std.specs.Prelude.{nat_lt}
use Rattle.message_view.specs.Bodies.{Text, HasNoZero}
use Rattle.std.specs.List.{AllByRecursion, AllZip, list_all}

abbrev pub OfSome : {A : Type 0} → (A → Type 0) → Option A → Type 0
OfSome P None = Unit {0}
OfSome P (Some x) = P x

pub all-each : {A : Type 0} (P : A → Type 0) → ((x : A) → P x) → (xs : List A) → AllByRecursion P xs
all-each P h [] = tt
all-each P h (x ∷ xs) = (h x, all-each P h xs)

pub all-as : {A : Type 0} (P Q : A → Type 0) → ((x : A) → P x → Q x) → (xs : List A) → AllByRecursion P xs → AllByRecursion Q xs
all-as P Q f [] h = tt
all-as P Q f (x ∷ xs) h = (f x h.0, all-as P Q f xs h.1)

pub all-append : {A : Type 0} (P : A → Type 0) (xs ys : List A) → AllByRecursion P xs → AllByRecursion P ys → AllByRecursion P (xs ++ ys)
all-append P [] ys h k = k
all-append P (x ∷ xs) ys h k = (h.0, all-append P xs ys h.1 k)

pub all-map : {A B : Type 0} (P : A → Type 0) (Q : B → Type 0) (f : A → B) → ((x : A) → P x → Q (f x)) → (xs : List A) → AllByRecursion P xs → AllByRecursion Q (map f xs)
all-map P Q f g [] h = tt
all-map P Q f g (x ∷ xs) h = (g x h.0, all-map P Q f g xs h.1)

pub all-filter : {A : Type 0} (P : A → Type 0) (test : A → Bool) (xs : List A) → AllByRecursion P xs → AllByRecursion P (filter test xs)
all-filter P test [] h = tt
all-filter P test (x ∷ xs) h = by_test (test x) h.0 (all-filter P test xs h.1)
  where
    by_test : (b : Bool) → P x → AllByRecursion P (filter test xs) → AllByRecursion P (cond b (x ∷ filter test xs) (filter test xs))
    by_test true p q = (p, q)
    by_test false p q = q

pub all-find : {A : Type 0} (P : A → Type 0) (test : A → Bool) (xs : List A) → AllByRecursion P xs → OfSome P (find test xs)
all-find P test [] h = tt
all-find P test (x ∷ xs) h = by_test (test x) h.0 (all-find P test xs h.1)
  where
    by_test : (b : Bool) → P x → OfSome P (find test xs) → OfSome P (cond b (Some x) (find test xs))
    by_test true p q = p
    by_test false p q = q

pub all-set : {A : Type 0} (P : A → Type 0) (xs : List A) (k : ℕ) (x : A) → AllByRecursion P xs → P x → AllByRecursion P (set xs k x)
all-set P [] k x h p = tt
all-set P (y ∷ ys) zero x h p = (p, h.1)
all-set P (y ∷ ys) (suc k) x h p = (h.0, all-set P ys k x h.1 p)

pub all-take : {A : Type 0} (P : A → Type 0) (k : ℕ) (xs : List A) → AllByRecursion P xs → AllByRecursion P (take k xs)
all-take P zero xs h = tt
all-take P (suc k) [] h = tt
all-take P (suc k) (x ∷ xs) h = (h.0, all-take P k xs h.1)

pub all-drop : {A : Type 0} (P : A → Type 0) (k : ℕ) (xs : List A) → AllByRecursion P xs → AllByRecursion P (drop k xs)
all-drop P zero xs h = h
all-drop P (suc k) [] h = tt
all-drop P (suc k) (x ∷ xs) h = all-drop P k xs h.1

-- ---- two lists, place by place

module _ {A B : Type 0} (R : A → B → Type 0) where
  pub zip-set : (xs : List A) (ys : List B) (k : ℕ) (y : B) → AllZip R xs ys → ((x : A) → R (get_or xs k x) y) → AllZip R xs (set ys k y)
  zip-set [] [] k y h p = tt
  zip-set [] (v ∷ ys) k y h p = absurd h
  zip-set (x ∷ xs) [] k y h p = absurd h
  zip-set (x ∷ xs) (v ∷ ys) zero y h p = (p x, h.1)
  zip-set (x ∷ xs) (v ∷ ys) (suc k) y h p = (h.0, zip-set xs ys k y h.1 p)

  pub zip-get : (xs : List A) (ys : List B) (k : ℕ) (a : A) (b : B) → AllZip R xs ys → R a b → R (get_or xs k a) (get_or ys k b)
  zip-get [] [] k a b h p = p
  zip-get [] (v ∷ ys) k a b h p = absurd h
  zip-get (x ∷ xs) [] k a b h p = absurd h
  zip-get (x ∷ xs) (v ∷ ys) zero a b h p = h.0
  zip-get (x ∷ xs) (v ∷ ys) (suc k) a b h p = zip-get xs ys k a b h.1 p

  pub zip-take : (k : ℕ) (xs : List A) (ys : List B) → AllZip R xs ys → AllZip R (take k xs) (take k ys)
  zip-take zero xs ys h = tt
  zip-take (suc k) [] [] h = tt
  zip-take (suc k) [] (v ∷ ys) h = absurd h
  zip-take (suc k) (x ∷ xs) [] h = absurd h
  zip-take (suc k) (x ∷ xs) (v ∷ ys) h = (h.0, zip-take k xs ys h.1)

-- ---- tests

pub and-first : (a b : Bool) → (a && b) ≡ true → a ≡ true
and-first true b h = refl
and-first false b h = absurd cc

pub and-second : (a b : Bool) → (a && b) ≡ true → b ≡ true
and-second true b h = h
and-second false b h = absurd cc

pub both : (a b : Bool) → a ≡ true → b ≡ true → (a && b) ≡ true
both true true h k = refl
both true false h k = k
both false b h k = h

pub list_all-each : {A : Type 0} (test : A → Bool) (xs : List A) → list_all test xs ≡ true → AllByRecursion (λ x. test x ≡ true) xs
list_all-each test [] h = tt
list_all-each test (x ∷ xs) h = (and-first (test x) (list_all test xs) h, list_all-each test xs (and-second (test x) (list_all test xs) h))

pub each-list_all : {A : Type 0} (test : A → Bool) (xs : List A) → AllByRecursion (λ x. test x ≡ true) xs → list_all test xs ≡ true
each-list_all test [] h = refl
each-list_all test (x ∷ xs) h = both (test x) (list_all test xs) h.0 (each-list_all test xs h.1)

-- ---- texts

-- a text in which a test finds no zero byte
pub plain-text : (t : Text) → list_all (nat_lt 0) t ≡ true → HasNoZero t
plain-text t h = all-as (λ b. nat_lt 0 b ≡ true) (λ b. 0 < b) (λ (b : ℕ) k. ltb-true 0 b k) t (list_all-each (nat_lt 0) t h)
