-- Lists of which all items pass a test, and names that none of them has.
use Rattle.std.proofs.Common.{◌≡◌, List, [], ◌∷◌, filter, Some, None, refl, ap, Bool, true, false, cond, not}
use Rattle.std.specs.List.{list_all}
use Rattle.mini_sql.specs.Words.{Text, same_text}
use Rattle.session_values.specs.Named.{named, without}
use Rattle.session_values.proofs.Alls.{all-filter, and-first, and-second, both, each-list_all, list_all-each}

-- ---- lists of which all items pass a test

module _ {A : Type 0} (test : A → Bool) where
  pub passing_stays : (xs : List A) → list_all test xs ≡ true → filter test xs ≡ xs
  passing_stays [] h = refl
  passing_stays (x ∷ xs) h = by_test (test x) (and-first (test x) (list_all test xs) h) (passing_stays xs (and-second (test x) (list_all test xs) h))
    where
      by_test : (b : Bool) → b ≡ true → filter test xs ≡ xs → cond b (x ∷ filter test xs) (filter test xs) ≡ x ∷ xs
      by_test true t e = ap (λ (ys : List A). x ∷ ys) e
      by_test false t e = absurd cc

  pub filtered_pass : (xs : List A) → list_all test (filter test xs) ≡ true
  filtered_pass [] = refl
  filtered_pass (x ∷ xs) = by_test (test x) refl (filtered_pass xs)
    where
      by_test : (b : Bool) → test x ≡ b → list_all test (filter test xs) ≡ true → list_all test (cond b (x ∷ filter test xs) (filter test xs)) ≡ true
      by_test true t h = both (test x) (list_all test (filter test xs)) t h
      by_test false t h = h

  pub filtered_still_pass : (other : A → Bool) (xs : List A) → list_all test xs ≡ true → list_all test (filter other xs) ≡ true
  filtered_still_pass other xs h = each-list_all test (filter other xs) (all-filter (λ x. test x ≡ true) other xs (list_all-each test xs h))

-- ---- what has another name

pub none_named : {A : Type 0} (name_of : A → Text) (xs : List A) (n : Text) → named name_of xs n ≡ None → without name_of xs n ≡ xs
none_named name_of [] n h = refl
none_named {A = A} name_of (x ∷ xs) n h = by_test (same_text (name_of x) n) (none_named name_of xs n) h
  where
    by_test : (b : Bool) → (named name_of xs n ≡ None → without name_of xs n ≡ xs) → cond b (Some x) (named name_of xs n) ≡ None → cond (not b) (x ∷ without name_of xs n) (without name_of xs n) ≡ x ∷ xs
    by_test true k e = absurd cc
    by_test false k e = ap (λ (ys : List A). x ∷ ys) (k e)
