-- The last link of a key, by the numbers of its pool's links from the back.
use Rattle.std.proofs.Common.{get_or, ◌≡◌, ℕ, suc, zero, ◌+◌, ◌≤◌, ◌<◌, Bool, true, false, List, [], ◌∷◌, length, drop, Option, None, Some, cond, refl, sym, ap, ◌∙◌, subst, arith, map, eq-eqb}
use Rattle.std.specs.Prelude.{find, filter, count_by}
use Rattle.session_values.specs.State.{StartKeyOf}
use Rattle.start_keys.specs.Keys.{same_key}
use Rattle.book_model.specs.Book.{Link, find_last, in_pool, is_link, latest_of, or_else}
use Rattle.book_rows.specs.Numbered.{is_of_key, number_of}
use Rattle.book_rows.specs.PoolIndex.{Groups, ListsIfAny, listed}
use Rattle.numbered_rows.proofs.Places.{count-cons, one_more}
use Rattle.book_rows.proofs.PoolHashes.{other_pool}
use Rattle.book_rows.proofs.Pooling.{given, key_of, link_number}

-- ---- a walk from the back

pub none_back : {A : Type 0} (p : A → Bool) (xs : List A) (k : ℕ) (x : A) → k < length xs → x ≡ get_or xs k x → p x ≡ false → find_last p (drop (suc k) xs) ≡ None → find_last p (drop k xs) ≡ None
none_back p [] k x h e f n = absurd (omega (arith, h))
none_back {A} p (y ∷ ys) zero x h e f n =
    let no : p y ≡ false = ap p (sym e) ∙ f in
    ap (λ (o : Option A). or_else o (cond (p y) (Some y) None)) n ∙ ap (λ (b : Bool). cond {A = Option A} b (Some y) None) no
none_back p (y ∷ ys) (suc k) x h e f n = none_back p ys k x (omega (arith, h)) e f n

pub found_back : {A : Type 0} (p : A → Bool) (xs : List A) (k : ℕ) (x : A) → k < length xs → x ≡ get_or xs k x → p x ≡ true → find_last p (drop (suc k) xs) ≡ None → find_last p xs ≡ Some x
found_back p [] k x h e f n = absurd (omega (arith, h))
found_back {A} p (y ∷ ys) zero x h e f n =
    let yes : p y ≡ true = ap p (sym e) ∙ f in
    ap (λ (o : Option A). or_else o (cond (p y) (Some y) None)) n ∙ (ap (λ (b : Bool). cond {A = Option A} b (Some y) None) yes ∙ ap (λ (z : A). Some z) (sym e))
found_back {A} p (y ∷ ys) (suc k) x h e f n = ap (λ (o : Option A). or_else o (cond (p y) (Some y) None)) (found_back p ys k x (omega (arith, h)) e f n)

-- ---- each link is found by its number

abbrev Found : List Link → List Link → Type 0
Found rows [] = Unit {0}
Found rows (y ∷ ys) = (find (is_link y.number) rows ≡ Some y) × (1 ≤ count_by (is_link y.number) rows) × Found rows ys

abbrev Once : List Link → Type 0
Once rows = (n : ℕ) → count_by (is_link n) rows ≤ 1

grow : (x : Link) (rows ys : List Link) → Once (x ∷ rows) → Found rows ys → Found (x ∷ rows) ys
grow x rows [] once f = _
grow x rows (y ∷ ys) once f =
    let at : (is_link y.number x ≡ false) × (count_by (is_link y.number) rows ≤ 1) = one_more (is_link y.number) x rows (is_link y.number x) refl f.1 (once y.number) in
    (ap (λ (b : Bool). cond b (Some x) (find (is_link y.number) rows)) at.0 ∙ f.0, omega (arith, f.1, count-cons (is_link y.number) x rows), grow x rows ys once f.2)

fewer : (x : Link) (rows : List Link) → Once (x ∷ rows) → Once rows
fewer x rows once n = omega (arith, once n, count-cons (is_link n) x rows)

all_found : (rows : List Link) → Once rows → Found rows rows
all_found [] once = _
all_found (x ∷ xs) once =
    let own : is_link x.number x ≡ true = eq-eqb x.number x.number refl in
    let counted : count_by (is_link x.number) (x ∷ xs) ≡ 1 + count_by (is_link x.number) xs = subst (λ (b : Bool). count_by (is_link x.number) (x ∷ xs) ≡ cond {A = ℕ} b 1 0 + count_by (is_link x.number) xs) own (count-cons (is_link x.number) x xs) in
    (ap (λ (b : Bool). cond b (Some x) (find (is_link x.number) xs)) own, omega (arith, counted), grow x xs xs once (all_found xs (fewer x xs once)))

-- ---- the last of a key

number_of_either : (o p : Option Link) → number_of (or_else o p) ≡ or_else (number_of o) (number_of p)
number_of_either None p = refl
number_of_either (Some l) p = refl

number_of_one : (l : Link) (b : Bool) → number_of (cond b (Some l) None) ≡ cond b (Some l.number) None
number_of_one l true = refl
number_of_one l false = refl

module _ (key : StartKeyOf) (rows : List Link) where
  abbrev there : ℕ → Bool
  there n = is_of_key key (find (is_link n) rows)

  step : (y : Link) (ys : List Link) (b : Bool) → in_pool key y ≡ b → there y.number ≡ same_key y.key key
      → find_last there (map link_number (filter (in_pool key) ys)) ≡ number_of (latest_of key ys)
      → find_last there (map link_number (cond b (y ∷ filter (in_pool key) ys) (filter (in_pool key) ys))) ≡ number_of (or_else (latest_of key ys) (cond (same_key y.key key) (Some y) None))
  step y ys true e f h =
      ap (λ (o : Option ℕ). or_else o (cond (there y.number) (Some y.number) None)) h
      ∙ (ap (λ (b : Bool). or_else (number_of (latest_of key ys)) (cond {A = Option ℕ} b (Some y.number) None)) f
      ∙ (ap (λ (o : Option ℕ). or_else (number_of (latest_of key ys)) o) (sym (number_of_one y (same_key y.key key)))
      ∙ sym (number_of_either (latest_of key ys) (cond (same_key y.key key) (Some y) None))))
  step y ys false e f h =
      h ∙ (sym (nothing (latest_of key ys)) ∙ ap (λ (b : Bool). number_of (or_else (latest_of key ys) (cond {A = Option Link} b (Some y) None))) (sym (other_pool y.key key e)))
    where
      nothing : (o : Option Link) → number_of (or_else o None) ≡ number_of o
      nothing None = refl
      nothing (Some l) = refl

  last_is : (ys : List Link) → Found rows ys → find_last there (map link_number (filter (in_pool key) ys)) ≡ number_of (latest_of key ys)
  last_is [] f = refl
  last_is (y ∷ ys) f = step y ys (in_pool key y) refl (ap (is_of_key key) f.0) (last_is ys f.2)

pub latest_listed : (o : Option Groups) (groups : Groups) (links : List Link) (key : StartKeyOf) → o ≡ Some groups → ListsIfAny link_number key_of o links → ((n : ℕ) → count_by (is_link n) links ≤ 1)
    → find_last (λ n. is_of_key key (find (is_link n) links)) (listed groups key) ≡ number_of (latest_of key links)
latest_listed o groups links key e l once =
    ap (find_last (λ n. is_of_key key (find (is_link n) links))) (given link_number key_of o groups links e l key) ∙ last_is key links links (all_found links once)
