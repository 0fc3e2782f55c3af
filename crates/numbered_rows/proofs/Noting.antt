-- Notes of where rows stand, as rows come, go and change, and slots go.
use Rattle.std.proofs.Common.{◌≡◌, ℕ, suc, zero, ◌+◌, ◌-◌, ◌==◌, ◌≤◌, ◌⊎◌, Bool, true, false, List, [], ◌∷◌, ◌++◌, Option, None, Some, cond, length, refl, sym, ap, ◌∙◌, subst, arith, rules, append-nil, inl, inr}
use Rattle.std.specs.Prelude.{count_by, filter, nat_eq, not, slice_get, slice_set}
use Rattle.std.specs.Map.{lookup}
use Rattle.std.specs.Option.{option_map}
use Rattle.std.proofs.lemmas.Bool.{eqb-true, false≢true}
use Rattle.numbered_rows.specs.Numbered.{HasSlot, bears, emptied, filled, row_at, rows_in}
use Rattle.numbered_rows.specs.RowNotes.{AreNoted, AreNotedIfAny, Forgets, Notes, Places, noted}
use Rattle.numbered_rows.specs.Indexes.{Follows}
use Rattle.numbered_rows.proofs.Places.{count-append, count-cons, none_here}
use Rattle.numbered_rows.proofs.Numbering.{one_behind, rows-append, taken_row}

-- ---- what stands in a list that changes

get_before : {X : Type 0} (xs ys : List X) (p : ℕ) (x : X) → slice_get xs p ≡ Some x → slice_get (xs ++ ys) p ≡ Some x
get_before [] ys p x e = absurd (cc)
get_before (y ∷ xs) ys zero x e = e
get_before (y ∷ xs) ys (suc p) x e = get_before xs ys p x e

get_last : {X : Type 0} (xs : List X) (x : X) → slice_get (xs ++ x ∷ []) (length xs) ≡ Some x
get_last [] x = refl
get_last (y ∷ xs) x = get_last xs x

set_here : {X : Type 0} (xs : List X) (p : ℕ) (w y : X) → slice_get xs p ≡ Some w → slice_get (slice_set xs p y) p ≡ Some y
set_here [] p w y e = absurd (cc)
set_here (x ∷ xs) zero w y e = refl
set_here (x ∷ xs) (suc p) w y e = set_here xs p w y e

next_place : (q p : ℕ) → q ≡ p → suc q ≡ suc p
next_place q p e = ap suc e

set_other : {X : Type 0} (xs : List X) (p q : ℕ) (y v : X) → slice_get xs q ≡ Some v → (slice_get (slice_set xs p y) q ≡ Some v) ⊎ (q ≡ p)
set_other [] p q y v e = absurd (cc)
set_other (x ∷ xs) zero zero y v e = inr refl
set_other (x ∷ xs) zero (suc q) y v e = inl e
set_other (x ∷ xs) (suc p) zero y v e = inl e
set_other (x ∷ xs) (suc p) (suc q) y v e = go (set_other xs p q y v e)
  where
    go : (slice_get (slice_set xs p y) q ≡ Some v) ⊎ (q ≡ p) → (slice_get (slice_set xs p y) q ≡ Some v) ⊎ (suc q ≡ suc p)
    go (inl f) = inl f
    go (inr f) = inr (next_place q p f)

module _ {A : Type 0} (number : A → ℕ) where
  passed_over : (p : A → Bool) (x : A) (xs : List A) → p x ≡ false → count_by p (x ∷ xs) ≡ count_by p xs
  passed_over p x xs e =
      let counted : count_by p (x ∷ xs) ≡ cond {A = ℕ} false 1 0 + count_by p xs = subst (λ (b : Bool). count_by p (x ∷ xs) ≡ cond {A = ℕ} b 1 0 + count_by p xs) e (count-cons p x xs) in
      omega (arith, counted)

  -- ---- a slot more

  has_more : (n : ℕ) (slots : List (Option A)) (x : A) (r : Option ℕ) → bears number n x ≡ false → HasSlot number n slots r → HasSlot number n (slots ++ Some x ∷ []) r
  has_more n slots x None e h = ap (count_by (bears number n)) (one_behind slots x) ∙ (count-append (bears number n) (rows_in slots) (x ∷ []) ∙ omega (arith, h, passed_over (bears number n) x [] e))
  has_more n slots x (Some p) e h = (h.0, get_before slots (Some x ∷ []) p (Some h.0) h.1, h.2)

  has_none : (n : ℕ) (slots : List (Option A)) (r : Option ℕ) → HasSlot number n slots r → HasSlot number n (slots ++ None ∷ []) r
  has_none n slots None h = ap (count_by (bears number n)) (rows-append slots (None ∷ []) ∙ append-nil (rows_in slots)) ∙ h
  has_none n slots (Some p) h = (h.0, get_before slots (None ∷ []) p (Some h.0) h.1, h.2)

  more_at : (gone k : ℕ) → gone + k - gone ≡ k
  more_at gone k = omega (arith)

  pub noted_more : (old new : Option Places) (gone : ℕ) (slots : List (Option A)) (x : A) → Follows (Notes (number x) (gone + length slots)) old new → AreNotedIfAny number old gone slots → AreNotedIfAny number new gone (slots ++ Some x ∷ [])
  noted_more old None gone slots x f a = _
  noted_more None (Some new) gone slots x f a = absurd f
  noted_more (Some old) (Some new) gone slots x f a = λ n. subst (λ (o : Option ℕ). HasSlot number n (slots ++ Some x ∷ []) (option_map (λ c. c - gone) o)) (sym (f n)) (of n (nat_eq (number x) n) refl)
    where
      of : (n : ℕ) (b : Bool) → nat_eq (number x) n ≡ b → HasSlot number n (slots ++ Some x ∷ []) (option_map (λ c. c - gone) (cond b (Some (gone + length slots)) (lookup (nat_eq n) old)))
      of n true is = (x, ap (slice_get (slots ++ Some x ∷ [])) (more_at gone (length slots)) ∙ get_last slots (Some x), is)
      of n false is = has_more n slots x (noted old gone n) is (a n)

  pub noted_first : (old new : Option Places) (slots : List (Option A)) (place : ℕ) (x : A) → length slots ≡ place → Follows (Notes (number x) place) old new → AreNotedIfAny number old 0 slots → AreNotedIfAny number new 0 (slots ++ Some x ∷ [])
  noted_first old new slots place x e f a = noted_more old new 0 slots x (subst (λ (k : ℕ). Follows (Notes (number x) k) old new) (counted (length slots) place e) f) a
    where
      counted : (k place : ℕ) → k ≡ place → place ≡ 0 + k
      counted k place h = omega (arith, h)

  pub noted_none : (notes : Option Places) (gone : ℕ) (slots : List (Option A)) → AreNotedIfAny number notes gone slots → AreNotedIfAny number notes gone (slots ++ None ∷ [])
  noted_none None gone slots a = _
  noted_none (Some places) gone slots a = λ n. has_none n slots (noted places gone n) (a n)

  pub noted_anew : (old new : Option Places) → Follows (λ was is. is ≡ []) old new → AreNotedIfAny number new 0 []
  noted_anew old None f = _
  noted_anew None (Some new) f = absurd f
  noted_anew (Some old) (Some new) f = subst (λ (places : Places). AreNoted number places 0 []) (sym f) (λ n. refl)

  -- ---- a row less

  fewer_left : (p q : A → Bool) (rows : List A) → count_by p rows ≡ 0 → count_by p (filter q rows) ≡ 0
  fewer_left p q [] h = refl
  fewer_left p q (x ∷ xs) h =
      let at : (p x ≡ false) × (count_by p xs ≡ 0) = none_here p x xs (p x) refl h in
      of (q x) at.0 (fewer_left p q xs at.1)
    where
      of : (b : Bool) → p x ≡ false → count_by p (filter q xs) ≡ 0 → count_by p (cond b (x ∷ filter q xs) (filter q xs)) ≡ 0
      of true e l = passed_over p x (filter q xs) e ∙ l
      of false e l = l

  none_left : (n : ℕ) (rows : List A) → count_by (bears number n) (filter (λ x. not (bears number n x)) rows) ≡ 0
  none_left n [] = refl
  none_left n (x ∷ xs) = of (bears number n x) refl (none_left n xs)
    where
      of : (b : Bool) → bears number n x ≡ b → count_by (bears number n) (filter (λ y. not (bears number n y)) xs) ≡ 0
          → count_by (bears number n) (cond (not b) (x ∷ filter (λ y. not (bears number n y)) xs) (filter (λ y. not (bears number n y)) xs)) ≡ 0
      of true e l = l
      of false e l = passed_over (bears number n) x (filter (λ y. not (bears number n y)) xs) e ∙ l

  -- a row bears one number
  one_number : (n m : ℕ) (x : A) → bears number n x ≡ true → bears number m x ≡ true → nat_eq n m ≡ false → ⊥
  one_number n m x e f apart = false≢true (sym apart ∙ subst (λ (k : ℕ). nat_eq k m ≡ true) (eqb-true (number x) n e) f)

  same_row : (slots : List (Option A)) (p : ℕ) (x y : A) → slice_get slots p ≡ Some (Some x) → slice_get slots p ≡ Some (Some y) → x ≡ y
  same_row slots p x y e f = let g : Some (Some x) ≡ Some (Some y) = sym e ∙ f in search (rules, g)

  has_less : (n m : ℕ) (slots : List (Option A)) (p : ℕ) (r : Option ℕ) → HasSlot number n slots (Some p) → count_by (bears number n) (rows_in slots) ≤ 1 → nat_eq n m ≡ false → HasSlot number m slots r → HasSlot number m (emptied slots (Some p)) r
  has_less n m slots p None at once apart h = ap (count_by (bears number m)) (taken_row number n slots (Some p) at once) ∙ fewer_left (bears number m) (λ x. not (bears number n x)) (rows_in slots) h
  has_less n m slots p (Some q) at once apart h = of (set_other slots p q None (Some h.0) h.1)
    where
      of : (slice_get (slice_set slots p None) q ≡ Some (Some h.0)) ⊎ (q ≡ p) → HasSlot number m (emptied slots (Some p)) (Some q)
      of (inl e) = (h.0, e, h.2)
      of (inr e) = absurd (one_number n m at.0 at.2 (ap (bears number m) (same_row slots p at.0 h.0 at.1 (subst (λ (k : ℕ). slice_get slots k ≡ Some (Some h.0)) e h.1)) ∙ h.2) apart)

  pub noted_less : (old new : Option Places) (gone : ℕ) (slots : List (Option A)) (n p : ℕ) → Follows (Forgets n) old new → HasSlot number n slots (Some p) → count_by (bears number n) (rows_in slots) ≤ 1 → AreNotedIfAny number old gone slots → AreNotedIfAny number new gone (emptied slots (Some p))
  noted_less old None gone slots n p f at once a = _
  noted_less None (Some new) gone slots n p f at once a = absurd f
  noted_less (Some old) (Some new) gone slots n p f at once a = λ m. subst (λ (o : Option ℕ). HasSlot number m (emptied slots (Some p)) (option_map (λ c. c - gone) o)) (sym (f m)) (of m (nat_eq n m) refl)
    where
      of : (m : ℕ) (b : Bool) → nat_eq n m ≡ b → HasSlot number m (emptied slots (Some p)) (option_map (λ c. c - gone) (cond b None (lookup (nat_eq m) old)))
      of m true is = subst (λ (k : ℕ). count_by (bears number k) (rows_in (emptied slots (Some p))) ≡ 0) (eqb-true n m is) (ap (count_by (bears number n)) (taken_row number n slots (Some p) at once) ∙ none_left n (rows_in slots))
      of m false is = has_less n m slots p (noted old gone m) at once is (a m)

  pub noted_taken : (old new : Option Places) (gone : ℕ) (slots : List (Option A)) (n : ℕ) (r : Option ℕ) (x : A) → Follows (Forgets n) old new → row_at slots r ≡ Some x → HasSlot number n slots r → count_by (bears number n) (rows_in slots) ≤ 1 → AreNotedIfAny number old gone slots → AreNotedIfAny number new gone (emptied slots r)
  noted_taken old new gone slots n None x f e at once a = absurd (cc)
  noted_taken old new gone slots n (Some p) x f e at once a = noted_less old new gone slots n p f at once a

  -- ---- a row in another's place

  as_often : (m : ℕ) (slots : List (Option A)) (p : ℕ) (x y : A) → slice_get slots p ≡ Some (Some x) → number y ≡ number x → count_by (bears number m) (rows_in (slice_set slots p (Some y))) ≡ count_by (bears number m) (rows_in slots)
  as_often m [] p x y e own = absurd (cc)
  as_often m (None ∷ slots) zero x y e own = absurd (cc)
  as_often m (Some z ∷ slots) zero x y e own =
      let is : z ≡ x = search (rules, e) in
      let same : bears number m y ≡ bears number m z = ap (λ (k : ℕ). k == m) (own ∙ ap number (sym is)) in
      count-cons (bears number m) y (rows_in slots) ∙ (ap (λ (b : Bool). cond {A = ℕ} b 1 0 + count_by (bears number m) (rows_in slots)) same ∙ sym (count-cons (bears number m) z (rows_in slots)))
  as_often m (None ∷ slots) (suc p) x y e own = as_often m slots p x y e own
  as_often m (Some z ∷ slots) (suc p) x y e own =
      count-cons (bears number m) z (rows_in (slice_set slots p (Some y))) ∙ (ap (λ (k : ℕ). cond {A = ℕ} (bears number m z) 1 0 + k) (as_often m slots p x y e own) ∙ sym (count-cons (bears number m) z (rows_in slots)))

  has_still : (m : ℕ) (slots : List (Option A)) (p : ℕ) (x y : A) (r : Option ℕ) → slice_get slots p ≡ Some (Some x) → number y ≡ number x → HasSlot number m slots r → HasSlot number m (filled slots (Some p) y) r
  has_still m slots p x y None e own h = as_often m slots p x y e own ∙ h
  has_still m slots p x y (Some q) e own h = of (set_other slots p q (Some y) (Some h.0) h.1)
    where
      of : (slice_get (slice_set slots p (Some y)) q ≡ Some (Some h.0)) ⊎ (q ≡ p) → HasSlot number m (filled slots (Some p) y) (Some q)
      of (inl f) = (h.0, f, h.2)
      of (inr f) =
          let is : x ≡ h.0 = same_row slots p x h.0 e (subst (λ (k : ℕ). slice_get slots k ≡ Some (Some h.0)) f h.1) in
          (y, ap (slice_get (slice_set slots p (Some y))) f ∙ set_here slots p (Some x) (Some y) e, ap (λ (k : ℕ). k == m) (own ∙ ap number is) ∙ h.2)

  pub noted_still : (notes : Option Places) (gone : ℕ) (slots : List (Option A)) (y : A) (r : Option ℕ) → HasSlot number (number y) slots r → AreNotedIfAny number notes gone slots → AreNotedIfAny number notes gone (filled slots r y)
  noted_still None gone slots y r at a = _
  noted_still (Some places) gone slots y None at a = a
  noted_still (Some places) gone slots y (Some p) at a = λ m. has_still m slots p at.0 y (noted places gone m) at.1 (sym (eqb-true (number at.0) (number y) at.2)) (a m)

  -- ---- an empty slot less at the front

  one_further : (c gone k : ℕ) → c - gone ≡ suc k → k ≡ c - (gone + 1)
  one_further c gone k e = omega (arith, e)

  has_front : (n c gone k : ℕ) (slots : List (Option A)) → c - gone ≡ k → HasSlot number n (None ∷ slots) (Some k) → HasSlot number n slots (Some (c - (gone + 1)))
  has_front n c gone zero slots e h = absurd (let none = h.1 in cc)
  has_front n c gone (suc k) slots e h = subst (λ (i : ℕ). HasSlot number n slots (Some i)) (one_further c gone k e) h

  pub noted_front : (notes : Option Places) (gone : ℕ) (slots : List (Option A)) → AreNotedIfAny number notes gone (None ∷ slots) → AreNotedIfAny number notes (gone + 1) slots
  noted_front None gone slots a = _
  noted_front (Some places) gone slots a = λ n. of n (lookup (nat_eq n) places) (a n)
    where
      of : (n : ℕ) (o : Option ℕ) → HasSlot number n (None ∷ slots) (option_map (λ c. c - gone) o) → HasSlot number n slots (option_map (λ c. c - (gone + 1)) o)
      of n None h = h
      of n (Some c) h = has_front n c gone (c - gone) slots refl h
