-- An index by pool beside the list that it is of.
use Rattle.std.proofs.Common.{◌≡◌, ℕ, ◌+◌, ◌≤◌, ◌<◌, Bool, true, false, List, [], ◌∷◌, ◌++◌, length, Option, None, Some, cond, refl, sym, ap, ◌∙◌, subst, arith, map, rules}
use Rattle.std.specs.Prelude.{position, find, filter, not, count_by, slice_get, ◌&&◌, IfSome}
use Rattle.session_values.specs.State.{StartKeyOf}
use Rattle.book_model.specs.Book.{Link, Ticket, in_pool, is_number, is_of, same_pool, waiting_before, without_number}
use Rattle.book_rows.specs.Numbered.{number_of}
use Rattle.book_rows.specs.PoolIndex.{AddsRow, Groups, Lists, ListsIfAny, TakesRow, listed, numbers_of}
use Rattle.numbered_rows.specs.Indexes.{Follows}
use Rattle.book_rows.specs.Waiting.{client_of, longest_waiting, longest_waiting_but}
use Rattle.std.specs.List.{prefix_len}
use Rattle.numbered_rows.proofs.Places.{count-cons, none_here, place_in, without_none}

-- ---- filters

filter-true : {A : Type 0} (p : A → Bool) (x : A) (xs : List A) → p x ≡ true → filter p (x ∷ xs) ≡ x ∷ filter p xs
filter-true p x xs e = ap (λ b. cond b (x ∷ filter p xs) (filter p xs)) e

filter-false : {A : Type 0} (p : A → Bool) (x : A) (xs : List A) → p x ≡ false → filter p (x ∷ xs) ≡ filter p xs
filter-false p x xs e = ap (λ b. cond b (x ∷ filter p xs) (filter p xs)) e

swap_step : {A : Type 0} (p q : A → Bool) (x : A) (xs : List A) (a b : Bool) → p x ≡ a → q x ≡ b → filter p (filter q xs) ≡ filter q (filter p xs)
    → filter p (cond b (x ∷ filter q xs) (filter q xs)) ≡ filter q (cond a (x ∷ filter p xs) (filter p xs))
swap_step p q x xs true true e f h = filter-true p x (filter q xs) e ∙ (ap (λ ys. x ∷ ys) h ∙ sym (filter-true q x (filter p xs) f))
swap_step p q x xs true false e f h = h ∙ sym (filter-false q x (filter p xs) f)
swap_step p q x xs false true e f h = filter-false p x (filter q xs) e ∙ h
swap_step p q x xs false false e f h = h

swap_filters : {A : Type 0} (p q : A → Bool) (xs : List A) → filter p (filter q xs) ≡ filter q (filter p xs)
swap_filters p q [] = refl
swap_filters p q (x ∷ xs) = swap_step p q x xs (p x) (q x) refl refl (swap_filters p q xs)

map_step : {A : Type 0} (f : A → ℕ) (r : ℕ → Bool) (x : A) (xs : List A) (b : Bool) → map f (filter (λ y. r (f y)) xs) ≡ filter r (map f xs)
    → map f (cond b (x ∷ filter (λ y. r (f y)) xs) (filter (λ y. r (f y)) xs)) ≡ cond b (f x ∷ filter r (map f xs)) (filter r (map f xs))
map_step f r x xs true h = ap (λ ys. f x ∷ ys) h
map_step f r x xs false h = h

map_filtered : {A : Type 0} (f : A → ℕ) (r : ℕ → Bool) (xs : List A) → map f (filter (λ y. r (f y)) xs) ≡ filter r (map f xs)
map_filtered f r [] = refl
map_filtered f r (x ∷ xs) = map_step f r x xs (r (f x)) (map_filtered f r xs)

module _ {A : Type 0} (number : A → ℕ) (key : A → StartKeyOf) where
  abbrev of_pool : StartKeyOf → A → Bool
  of_pool pool row = same_pool (key row) pool

  abbrev numbers : StartKeyOf → List A → List ℕ
  numbers pool rows = numbers_of number key pool rows

  -- ---- a row more

  cons_one : (y x : A) (ys zs : List A) (a b : Bool) → map number ys ≡ cond b (map number zs ++ number x ∷ []) (map number zs)
      → map number (cond a (y ∷ ys) ys) ≡ cond b (map number (cond a (y ∷ zs) zs) ++ number x ∷ []) (map number (cond a (y ∷ zs) zs))
  cons_one y x ys zs true true e = ap (λ ns. number y ∷ ns) e
  cons_one y x ys zs true false e = ap (λ ns. number y ∷ ns) e
  cons_one y x ys zs false true e = e
  cons_one y x ys zs false false e = e

  just_one : (x : A) (b : Bool) → map number (cond b (x ∷ []) []) ≡ cond b (number x ∷ []) []
  just_one x true = refl
  just_one x false = refl

  one_more : (pool : StartKeyOf) (xs : List A) (x : A) → numbers pool (xs ++ x ∷ []) ≡ cond (of_pool pool x) (numbers pool xs ++ number x ∷ []) (numbers pool xs)
  one_more pool [] x = just_one x (of_pool pool x)
  one_more pool (y ∷ ys) x = cons_one y x (filter (of_pool pool) (ys ++ x ∷ [])) (filter (of_pool pool) ys) (of_pool pool y) (of_pool pool x) (one_more pool ys x)

  pub listed_more : (old new : Option Groups) (xs : List A) (x : A) → Follows (AddsRow (key x) (number x)) old new → ListsIfAny number key old xs → ListsIfAny number key new (xs ++ x ∷ [])
  listed_more old None xs x f l = _
  listed_more None (Some new) xs x f l = absurd f
  listed_more (Some old) (Some new) xs x f l = λ pool. f pool ∙ (ap (λ ns. cond (of_pool pool x) (ns ++ number x ∷ []) ns) (l pool) ∙ sym (one_more pool xs x))

  -- ---- a row less

  abbrev is : ℕ → A → Bool
  is n row = is_number n (number row)

  without_one : (pool : StartKeyOf) (n : ℕ) (xs : List A) → numbers pool (filter (λ x. not (is n x)) xs) ≡ without_number n (numbers pool xs)
  without_one pool n xs = ap (map number) (swap_filters (of_pool pool) (λ x. not (is n x)) xs) ∙ map_filtered number (λ m. not (is_number n m)) (filter (of_pool pool) xs)

  map_cond : (x : A) (xs : List A) (b : Bool) → map number (cond b (x ∷ xs) xs) ≡ cond b (number x ∷ map number xs) (map number xs)
  map_cond x xs true = refl
  map_cond x xs false = refl

  some_step : (n : ℕ) (x : A) (ns : List ℕ) (k : ℕ) (a : Bool) → count_by (is_number n) ns ≤ k → count_by (is_number n) (cond a (number x ∷ ns) ns) ≤ cond {A = ℕ} (is n x) 1 0 + k
  some_step n x ns k true h = omega (arith, h, count-cons (is_number n) (number x) ns)
  some_step n x ns k false h = omega (arith, h)

  -- no more numbers of a pool than rows
  some_of : (n : ℕ) (pool : StartKeyOf) (xs : List A) → count_by (is_number n) (numbers pool xs) ≤ count_by (is n) xs
  some_of n pool [] = omega (arith)
  some_of n pool (x ∷ xs) =
      subst (λ (ns : List ℕ). count_by (is_number n) ns ≤ count_by (is n) (x ∷ xs)) (sym (map_cond x (filter (of_pool pool) xs) (of_pool pool x)))
      (subst (λ (k : ℕ). count_by (is_number n) (cond (of_pool pool x) (number x ∷ numbers pool xs) (numbers pool xs)) ≤ k) (sym (count-cons (is n) x xs)) (some_step n x (numbers pool xs) (count_by (is n) xs) (of_pool pool x) (some_of n pool xs)))

  pub listed_once : (o : Option Groups) (xs : List A) (n : ℕ) (pool : StartKeyOf) → ListsIfAny number key o xs → count_by (is n) xs ≤ 1 → IfSome o (λ groups. count_by (is_number n) (listed groups pool) ≤ 1)
  listed_once None xs n pool l once = _
  listed_once (Some groups) xs n pool l once = omega (arith, once, subst (λ (ns : List ℕ). count_by (is_number n) ns ≤ count_by (is n) xs) (sym (l pool)) (some_of n pool xs))

  still_step : (pool : StartKeyOf) (n : ℕ) (x y : A) (ys : List A) (a : Bool) → is n y ≡ a → of_pool pool x ≡ false → cond a (Some y) (find (is n) ys) ≡ Some x → count_by (is n) (y ∷ ys) ≤ 1
      → (find (is n) ys ≡ Some x → count_by (is n) ys ≤ 1 → filter (of_pool pool) (filter (λ z. not (is n z)) ys) ≡ filter (of_pool pool) ys)
      → filter (of_pool pool) (cond (not a) (y ∷ filter (λ z. not (is n z)) ys) (filter (λ z. not (is n z)) ys)) ≡ filter (of_pool pool) (y ∷ ys)
  still_step pool n x y ys true e f there once h =
      let counted : count_by (is n) (y ∷ ys) ≡ 1 + count_by (is n) ys = count-cons (is n) y ys ∙ ap (λ b. cond {A = ℕ} b 1 0 + count_by (is n) ys) e in
      let same : y ≡ x = search (rules, there) in
      ap (filter (of_pool pool)) (without_none (is n) ys (omega (arith, counted, once))) ∙ sym (filter-false (of_pool pool) y ys (ap (of_pool pool) same ∙ f))
  still_step pool n x y ys false e f there once h =
      ap (λ zs. cond (of_pool pool y) (y ∷ zs) zs) (h there (omega (arith, count-cons (is n) y ys, once)))

  -- the rows of the other pools stay
  still : (pool : StartKeyOf) (n : ℕ) (x : A) (xs : List A) → of_pool pool x ≡ false → find (is n) xs ≡ Some x → count_by (is n) xs ≤ 1 → filter (of_pool pool) (filter (λ z. not (is n z)) xs) ≡ filter (of_pool pool) xs
  still pool n x [] f there once = refl
  still pool n x (y ∷ ys) f there once = still_step pool n x y ys (is n y) refl f there once (λ t o. still pool n x ys f t o)

  one_less : (pool : StartKeyOf) (n : ℕ) (xs : List A) (x : A) (b : Bool) → of_pool pool x ≡ b → find (is n) xs ≡ Some x → count_by (is n) xs ≤ 1
      → cond b (without_number n (numbers pool xs)) (numbers pool xs) ≡ numbers pool (filter (λ z. not (is n z)) xs)
  one_less pool n xs x true e there once = sym (without_one pool n xs)
  one_less pool n xs x false e there once = ap (map number) (sym (still pool n x xs e there once))

  pub listed_less : (old new : Option Groups) (xs : List A) (n : ℕ) (x : A) → Follows (TakesRow (key x) n) old new → find (is n) xs ≡ Some x → count_by (is n) xs ≤ 1
      → ListsIfAny number key old xs → ListsIfAny number key new (filter (λ z. not (is n z)) xs)
  listed_less old None xs n x f there once l = _
  listed_less None (Some new) xs n x f there once l = absurd f
  listed_less (Some old) (Some new) xs n x f there once l = λ pool. f pool ∙ (ap (λ ns. cond (of_pool pool x) (without_number n ns) ns) (l pool) ∙ one_less pool n xs x (of_pool pool x) refl there once)

  no_such : (n : ℕ) (xs : List A) → find (is n) xs ≡ None → filter (λ z. not (is n z)) xs ≡ xs
  no_such n [] e = refl
  no_such n (y ∷ ys) e = of (is n y) e (no_such n ys)
    where
      of : (b : Bool) → cond b (Some y) (find (is n) ys) ≡ None → (find (is n) ys ≡ None → filter (λ z. not (is n z)) ys ≡ ys) → cond (not b) (y ∷ filter (λ z. not (is n z)) ys) (filter (λ z. not (is n z)) ys) ≡ y ∷ ys
      of true q h = absurd (cc)
      of false q h = ap (λ zs. y ∷ zs) (h q)

  pub listed_still : (o : Option Groups) (xs : List A) (n : ℕ) → find (is n) xs ≡ None → ListsIfAny number key o xs → ListsIfAny number key o (filter (λ z. not (is n z)) xs)
  listed_still o xs n e l = subst (λ (zs : List A). ListsIfAny number key o zs) (sym (no_such n xs e)) l

  -- ---- what an index tells

  -- one that wasn't given up
  pub given : (o : Option Groups) (groups : Groups) (xs : List A) → o ≡ Some groups → ListsIfAny number key o xs → Lists number key groups xs
  given o groups xs e l = subst (λ (g : Option Groups). ListsIfAny number key g xs) e l

  count_step : (p : A → Bool) (x : A) (xs : List A) (b : Bool) → length (map number (filter p xs)) ≡ count_by p xs → length (map number (cond b (x ∷ filter p xs) (filter p xs))) ≡ cond {A = ℕ} b 1 0 + count_by p xs
  count_step p x xs true h = omega (arith, h)
  count_step p x xs false h = omega (arith, h)

  count-filter : (p : A → Bool) (xs : List A) → length (map number (filter p xs)) ≡ count_by p xs
  count-filter p [] = refl
  count-filter p (x ∷ xs) = count_step p x xs (p x) (count-filter p xs) ∙ sym (count-cons p x xs)

  pub counted : (groups : Groups) (xs : List A) (pool : StartKeyOf) → Lists number key groups xs → length (listed groups pool) ≡ count_by (λ row. same_pool (key row) pool) xs
  counted groups xs pool l = ap length (l pool) ∙ count-filter (of_pool pool) xs

-- ---- the tickets, by their clients

abbrev client : Ticket → ℕ
client t = t.client

abbrev pool_of : Ticket → StartKeyOf
pool_of t = t.key

abbrev waits_in : StartKeyOf → Ticket → Bool
waits_in pool t = same_pool t.key pool

first_step : (p : Ticket → Bool) (t : Ticket) (ts : List Ticket) (b : Bool) → slice_get (map client (filter p ts)) 0 ≡ client_of (find p ts)
    → slice_get (map client (cond b (t ∷ filter p ts) (filter p ts))) 0 ≡ client_of (cond b (Some t) (find p ts))
first_step p t ts true h = refl
first_step p t ts false h = h

first_is : (p : Ticket → Bool) (ts : List Ticket) → slice_get (map client (filter p ts)) 0 ≡ client_of (find p ts)
first_is p [] = refl
first_is p (t ∷ ts) = first_step p t ts (p t) (first_is p ts)

pub longest : (o : Option Groups) (groups : Groups) (tickets : List Ticket) (pool : StartKeyOf) → o ≡ Some groups → ListsIfAny client pool_of o tickets → slice_get (listed groups pool) 0 ≡ longest_waiting pool tickets
longest o groups tickets pool e a = let l = given client pool_of o groups tickets e a in ap (λ (ns : List ℕ). slice_get ns 0) (l pool) ∙ first_is (waits_in pool) tickets

but_step : (n : ℕ) (p : Ticket → Bool) (t : Ticket) (ts : List Ticket) (a b : Bool) → is_of n t ≡ b → find (λ m. not (is_number n m)) (map client (filter p ts)) ≡ client_of (find (λ u. p u && not (is_of n u)) ts)
    → find (λ m. not (is_number n m)) (map client (cond a (t ∷ filter p ts) (filter p ts))) ≡ client_of (cond (a && not (is_of n t)) (Some t) (find (λ u. p u && not (is_of n u)) ts))
but_step n p t ts false b e h = h
but_step n p t ts true true e h = ap (λ (v : Bool). cond (not v) (Some t.client) (find (λ m. not (is_number n m)) (map client (filter p ts)))) e ∙ (h ∙ sym (ap (λ (v : Bool). client_of (cond (not v) (Some t) (find (λ u. p u && not (is_of n u)) ts))) e))
but_step n p t ts true false e h = ap (λ (v : Bool). cond (not v) (Some t.client) (find (λ m. not (is_number n m)) (map client (filter p ts)))) e ∙ sym (ap (λ (v : Bool). client_of (cond (not v) (Some t) (find (λ u. p u && not (is_of n u)) ts))) e)

first_but : (n : ℕ) (p : Ticket → Bool) (ts : List Ticket) → find (λ m. not (is_number n m)) (map client (filter p ts)) ≡ client_of (find (λ u. p u && not (is_of n u)) ts)
first_but n p [] = refl
first_but n p (t ∷ ts) = but_step n p t ts (p t) (is_of n t) refl (first_but n p ts)

pub longest_but : (o : Option Groups) (groups : Groups) (tickets : List Ticket) (n : ℕ) (pool : StartKeyOf) → o ≡ Some groups → ListsIfAny client pool_of o tickets → find (λ m. not (is_number n m)) (listed groups pool) ≡ longest_waiting_but n pool tickets
longest_but o groups tickets n pool e a = let l = given client pool_of o groups tickets e a in ap (λ (ns : List ℕ). find (λ m. not (is_number n m)) ns) (l pool) ∙ first_but n (waits_in pool) tickets

-- ---- how many stand before a ticket

abbrev there : ℕ → List ℕ → ℕ
there n ns = prefix_len (λ m. not (is_number n m)) ns

nowhere_step : (n : ℕ) (t : Ticket) (ns : List ℕ) (b : Bool) → is_of n t ≡ false → there n ns ≡ length ns → there n (cond b (t.client ∷ ns) ns) ≡ length (cond b (t.client ∷ ns) ns)
nowhere_step n t ns true e h =
    let cut : there n (t.client ∷ ns) ≡ 1 + there n ns = ap (λ (v : Bool). cond (not v) (1 + there n ns) 0) e in
    omega (arith, cut, h)
nowhere_step n t ns false e h = h

client_cond : (t : Ticket) (ts : List Ticket) (b : Bool) → map client (cond b (t ∷ ts) ts) ≡ cond b (t.client ∷ map client ts) (map client ts)
client_cond t ts true = refl
client_cond t ts false = refl

-- a client without a ticket is in no pool's list
nowhere : (n : ℕ) (pool : StartKeyOf) (ts : List Ticket) → count_by (is_of n) ts ≡ 0 → there n (map client (filter (waits_in pool) ts)) ≡ length (map client (filter (waits_in pool) ts))
nowhere n pool [] h = refl
nowhere n pool (t ∷ ts) h =
    let at : (is_of n t ≡ false) × (count_by (is_of n) ts ≡ 0) = none_here (is_of n) t ts (is_of n t) refl h in
    let ns : List ℕ = map client (filter (waits_in pool) ts) in
    subst (λ (ms : List ℕ). there n ms ≡ length ms) (sym (client_cond t (filter (waits_in pool) ts) (waits_in pool t))) (nowhere_step n t ns (waits_in pool t) at.0 (nowhere n pool ts at.1))

abbrev Before : ℕ → StartKeyOf → List Ticket → Type 0
Before n pool ts = there n (map client (filter (waits_in pool) ts)) < length (map client (filter (waits_in pool) ts)) → waiting_before pool n ts ≡ there n (map client (filter (waits_in pool) ts))

before_step : (n : ℕ) (pool : StartKeyOf) (t : Ticket) (ts : List Ticket) (a b : Bool) → is_of n t ≡ a → (a ≡ true → count_by (is_of n) ts ≡ 0) → Before n pool ts
    → there n (cond b (t.client ∷ map client (filter (waits_in pool) ts)) (map client (filter (waits_in pool) ts))) < length (cond b (t.client ∷ map client (filter (waits_in pool) ts)) (map client (filter (waits_in pool) ts)))
    → cond a 0 (cond {A = ℕ} b 1 0 + waiting_before pool n ts) ≡ there n (cond b (t.client ∷ map client (filter (waits_in pool) ts)) (map client (filter (waits_in pool) ts)))
before_step n pool t ts true true e none h within = sym (ap (λ (v : Bool). cond (not v) (1 + there n (map client (filter (waits_in pool) ts))) 0) e)
before_step n pool t ts true false e none h within = absurd (omega (arith, within, nowhere n pool ts (none refl)))
before_step n pool t ts false true e none h within =
    let cut : there n (t.client ∷ map client (filter (waits_in pool) ts)) ≡ 1 + there n (map client (filter (waits_in pool) ts)) = ap (λ (v : Bool). cond (not v) (1 + there n (map client (filter (waits_in pool) ts))) 0) e in
    ap (λ k. 1 + k) (h (omega (arith, within, cut))) ∙ sym cut
before_step n pool t ts false false e none h within = omega (arith, h within)

one_of : (n : ℕ) (t : Ticket) (ts : List Ticket) → count_by (is_of n) (t ∷ ts) ≤ 1 → is_of n t ≡ true → count_by (is_of n) ts ≡ 0
one_of n t ts once e =
    let counted : count_by (is_of n) (t ∷ ts) ≡ 1 + count_by (is_of n) ts = subst (λ (b : Bool). count_by (is_of n) (t ∷ ts) ≡ cond {A = ℕ} b 1 0 + count_by (is_of n) ts) e (count-cons (is_of n) t ts) in
    omega (arith, counted, once)

fewer_of : (n : ℕ) (t : Ticket) (ts : List Ticket) → count_by (is_of n) (t ∷ ts) ≤ 1 → count_by (is_of n) ts ≤ 1
fewer_of n t ts once = omega (arith, count-cons (is_of n) t ts, once)

before_is : (n : ℕ) (pool : StartKeyOf) (ts : List Ticket) → count_by (is_of n) ts ≤ 1 → Before n pool ts
before_is n pool [] once within = refl
before_is n pool (t ∷ ts) once within =
    let shape : map client (filter (waits_in pool) (t ∷ ts)) ≡ cond (waits_in pool t) (t.client ∷ map client (filter (waits_in pool) ts)) (map client (filter (waits_in pool) ts)) = client_cond t (filter (waits_in pool) ts) (waits_in pool t) in
    before_step n pool t ts (is_of n t) (waits_in pool t) refl (one_of n t ts once) (before_is n pool ts (fewer_of n t ts once)) (subst (λ (ns : List ℕ). there n ns < length ns) shape within) ∙ ap (there n) (sym shape)

pub stands_behind : (o : Option Groups) (groups : Groups) (tickets : List Ticket) (n place : ℕ) (pool : StartKeyOf) → o ≡ Some groups → ListsIfAny client pool_of o tickets → ((m : ℕ) → count_by (is_of m) tickets ≤ 1) → position (is_number n) (listed groups pool) ≡ Some place → place ≡ waiting_before pool n tickets
stands_behind o groups tickets n place pool is a once e =
    let l = given client pool_of o groups tickets is a in
    let found : position (is_number n) (map client (filter (waits_in pool) tickets)) ≡ Some place = sym (ap (position (is_number n)) (l pool)) ∙ e in
    let at = place_in _ _ place _ refl found in
    at.0 ∙ sym (before_is n pool tickets (once n) at.1)

-- ---- the links, by their numbers

abbrev pub link_number : Link → ℕ
link_number l = l.number

abbrev pub key_of : Link → StartKeyOf
key_of l = l.key

link_step : (p : Link → Bool) (l : Link) (ls : List Link) (b : Bool) → slice_get (map link_number (filter p ls)) 0 ≡ number_of (find p ls)
    → slice_get (map link_number (cond b (l ∷ filter p ls) (filter p ls))) 0 ≡ number_of (cond b (Some l) (find p ls))
link_step p l ls true h = refl
link_step p l ls false h = h

first_number : (p : Link → Bool) (ls : List Link) → slice_get (map link_number (filter p ls)) 0 ≡ number_of (find p ls)
first_number p [] = refl
first_number p (l ∷ ls) = link_step p l ls (p l) (first_number p ls)

pub first_link : (o : Option Groups) (groups : Groups) (links : List Link) (pool : StartKeyOf) → o ≡ Some groups → ListsIfAny link_number key_of o links → slice_get (listed groups pool) 0 ≡ number_of (find (in_pool pool) links)
first_link o groups links pool e a = let l = given link_number key_of o groups links e a in ap (λ (ns : List ℕ). slice_get ns 0) (l pool) ∙ first_number (in_pool pool) links

pub links_counted : (o : Option Groups) (groups : Groups) (links : List Link) (pool : StartKeyOf) → o ≡ Some groups → ListsIfAny link_number key_of o links → length (listed groups pool) ≡ count_by (in_pool pool) links
links_counted o groups links pool e a = counted link_number key_of groups links pool (given link_number key_of o groups links e a)

pub waiting : (o : Option Groups) (groups : Groups) (tickets : List Ticket) (pool : StartKeyOf) → o ≡ Some groups → ListsIfAny client pool_of o tickets → length (listed groups pool) ≡ count_by (λ t. same_pool t.key pool) tickets
waiting o groups tickets pool e a = counted client pool_of groups tickets pool (given client pool_of o groups tickets e a)
