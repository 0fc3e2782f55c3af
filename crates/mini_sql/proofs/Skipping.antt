-- Lists that are passed over, item by item.
use Rattle.std.proofs.Common.{◌≡◌, ℕ, suc, ◌+◌, ◌<◌, ◌≤◌, List, [], ◌∷◌, length, Option, Some, None, refl, sym, ap, ◌∙◌, arith, Bool, true, false, add_assoc}
use Rattle.std.specs.Prelude.{if◌then◌else◌, nat_le, max}
use Rattle.mini_sql.specs.Statements.{Operand, greatest, operand_parameter}
use Rattle.std.proofs.lemmas.Bool.{le-leb, lt-leb}
use Rattle.mini_sql.specs.Words.{Text}
use Rattle.mini_sql.specs.Tokens.{Token, Sign, after_token, comma}
use Rattle.mini_sql.specs.Statements.{read, items, definitions, columns_at, at_most_64, with_item, column_of}
use Rattle.mini_sql.specs.Lists.{Listing, rest_of, more, GoesOn}
use Rattle.mini_sql.proofs.Reading.{more-comma, more-end, nothing_more}

-- how many items a list has, and what follows it
abbrev pub Size : Type 0
Size = Option (ℕ × List Token)

abbrev pub size_of : {A : Type 0} → Listing A → Size
size_of None = None
size_of (Some p) = Some (length p.0, p.1)

abbrev pub plus : ℕ → Size → Size
plus k None = None
plus k (Some q) = Some (k + q.0, q.1)

abbrev pub within : Size → Option (List Token)
within None = None
within (Some q) = if nat_le q.0 64 then Some q.1 else None

rest_if : (p : List Text × List Token) (b : Bool) → rest_of (if b then Some p else None) ≡ (if b then Some p.1 else None)
rest_if p true = refl
rest_if p false = refl

pub rest-within : (x : Listing Text) → rest_of (at_most_64 x) ≡ within (size_of x)
unfolding at_most_64
rest-within None = refl
rest-within (Some p) = rest_if p (nat_le (length p.0) 64)

size-item : {A : Type 0} (a : A) (m : Listing A) → size_of (with_item (Some a) m) ≡ plus 1 (size_of m)
unfolding with_item
size-item a None = refl
size-item a (Some p) = ap (λ n. Some (n, p.1)) (omega arith)

plus-plus : (a b : ℕ) (q : Size) → plus a (plus b q) ≡ plus (a + b) q
plus-plus a b None = refl
plus-plus a b (Some q) = ap (λ n. Some (n, q.1)) (sym (add_assoc a b q.0))

-- one more item was read
one_more : {A : Type 0} (k : ℕ) (a : A) (whole : Size) (x m : Listing A) → whole ≡ plus k (size_of x) → x ≡ with_item (Some a) m → whole ≡ plus (k + 1) (size_of m)
one_more k a whole x m so_far e = so_far ∙ ap (λ y. plus k (size_of y)) e ∙ ap (plus k) (size-item a m) ∙ plus-plus k 1 (size_of m)

pub goes-on : {A : Type 0} (list : List Token → Listing A) (k : ℕ) (a : A) (whole : Size) (o rest next : Option (List Token)) → whole ≡ plus k (size_of (read list o))
    → read list o ≡ with_item (Some a) (more list rest) → rest ≡ after_token (Sign comma) next → whole ≡ plus (k + 1) (size_of (read list next))
goes-on list k a whole o rest next so_far e c = one_more k a whole _ _ so_far e ∙ ap (λ y. plus (k + 1) (size_of y)) (more-comma list rest next c)

within_rest : (A : Type 0) (k : ℕ) (o : Option (List Token)) → k + 1 ≤ 64 → within (plus (k + 1) (size_of {A = A} (nothing_more o))) ≡ o
within_rest A k None le = refl
within_rest A k (Some ts) le = let fits : nat_le (k + 1 + 0) 64 ≡ true = le-leb _ _ (omega arith) in rw fits refl

pub stops : (list : List Token → Listing Text) (k : ℕ) (a : Text) (x : Listing Text) (o rest : Option (List Token)) → k < 64 → size_of x ≡ plus k (size_of (read list o))
    → read list o ≡ with_item (Some a) (more list rest) → GoesOn None rest → rest_of (at_most_64 x) ≡ rest
stops list k a x o rest lt so_far e g =
    rest-within x ∙ ap within (one_more k a (size_of x) _ _ so_far e ∙ ap (λ y. plus (k + 1) (size_of y)) (more-end list rest g)) ∙ within_rest Text k rest (omega arith)

pub faults : (list : List Token → Listing Text) (k : ℕ) (x : Listing Text) (o : Option (List Token)) → size_of x ≡ plus k (size_of (read list o)) → read list o ≡ None → rest_of (at_most_64 x) ≡ None
faults list k x o so_far e = rest-within x ∙ ap within (so_far ∙ ap (λ y. plus k (size_of y)) e)

-- a list has an item
item_some : {A : Type 0} (v : Option A) (m : Listing A) (p : List A × List Token) → with_item v m ≡ Some p → 1 ≤ length p.0
unfolding with_item
item_some None None p e = absurd (cc)
item_some None (Some q) p e = absurd (cc)
item_some (Some a) None p e = absurd (cc)
item_some {A} (Some a) (Some q) p e =
    let length_of : Option (List A × List Token) → ℕ = λ o. elim o [ None ↦ 0 | Some r ↦ length r.0 ] in
    let same : suc (length q.0) ≡ length p.0 = ap length_of e in
    omega (arith, same)

items_some : {A : Type 0} (item_of : Token → Option A) (ts : List Token) (p : List A × List Token) → items item_of ts ≡ Some p → 1 ≤ length p.0
unfolding items
items_some item_of [] p e = absurd (cc)
items_some item_of (t ∷ []) p e = item_some _ _ p e
items_some item_of (t ∷ s ∷ ts) p e = item_some _ _ p e

definition_some : (b : Bool) (v : Option Text) (m : Listing Text) (p : List Text × List Token) → (if b then with_item v m else None) ≡ Some p → 1 ≤ length p.0
definition_some true v m p e = item_some v m p e
definition_some false v m p e = absurd (cc)

definitions_some : (ts : List Token) (p : List Text × List Token) → definitions ts ≡ Some p → 1 ≤ length p.0
unfolding definitions
definitions_some [] p e = absurd (cc)
definitions_some (t ∷ []) p e = absurd (cc)
definitions_some (t ∷ k ∷ []) p e = definition_some _ _ _ p e
definitions_some (t ∷ k ∷ s ∷ ts) p e = definition_some _ _ _ p e

columns_some : (typed : Bool) (ts : List Token) (p : List Text × List Token) → columns_at typed ts ≡ Some p → 1 ≤ length p.0
unfolding columns_at
columns_some true ts p e = definitions_some ts p e
columns_some false ts p e = items_some column_of ts p e

over : (typed : Bool) (ts : List Token) (y : Listing Text) → columns_at typed ts ≡ y → within (plus 64 (size_of y)) ≡ None
over typed ts None e = refl
over typed ts (Some p) e =
    let some = columns_some typed ts p e in
    let long : nat_le (64 + length p.0) 64 ≡ false = lt-leb _ _ (omega arith) in
    rw long refl

pub too_many : (typed : Bool) (x : Listing Text) (o : Option (List Token)) → size_of x ≡ plus 64 (size_of (read (columns_at typed) o)) → rest_of (at_most_64 x) ≡ None
unfolding read
too_many typed x None so_far = rest-within x ∙ ap within so_far
too_many typed x (Some ts) so_far = rest-within x ∙ ap within so_far ∙ over typed ts (columns_at typed ts) refl

pub begins : {A : Type 0} (x : Listing A) → size_of x ≡ plus 0 (size_of x)
begins None = refl
begins (Some p) = ap (λ n. Some (n, p.1)) (omega arith)

-- a list without a limit
rest-item : {A : Type 0} (a : A) (m : Listing A) → rest_of (with_item (Some a) m) ≡ rest_of m
unfolding with_item
rest-item a None = refl
rest-item a (Some p) = refl

pub rest-goes_on : {A : Type 0} (list : List Token → Listing A) (a : A) (x : Listing A) (o rest next : Option (List Token)) → rest_of x ≡ rest_of (read list o)
    → read list o ≡ with_item (Some a) (more list rest) → rest ≡ after_token (Sign comma) next → rest_of x ≡ rest_of (read list next)
rest-goes_on list a x o rest next so_far e c = so_far ∙ ap rest_of e ∙ rest-item a _ ∙ ap rest_of (more-comma list rest next c)

nothing_rest : (A : Type 0) (o : Option (List Token)) → rest_of {A = A} (nothing_more o) ≡ o
nothing_rest A None = refl
nothing_rest A (Some ts) = refl

pub rest-stops : {A : Type 0} (list : List Token → Listing A) (a : A) (x : Listing A) (o rest : Option (List Token)) → rest_of x ≡ rest_of (read list o)
    → read list o ≡ with_item (Some a) (more list rest) → GoesOn None rest → rest_of x ≡ rest
rest-stops {A} list a x o rest so_far e g = so_far ∙ ap rest_of e ∙ rest-item a _ ∙ ap rest_of (more-end list rest g) ∙ nothing_rest A rest

-- the greatest parameter, by one more value
pub greatest-more : (most next : ℕ) (o : Operand) (xs ys : List Operand) (whole : ℕ) → xs ≡ o ∷ ys → max most (greatest xs) ≡ whole → next ≡ max most (operand_parameter o) → max next (greatest ys) ≡ whole
greatest-more most next o xs ys whole e so_far n =
    let all : greatest xs ≡ max (operand_parameter o) (greatest ys) = ap greatest e in
    omega (arith, all, so_far, n)

pub greatest-all : (most : ℕ) (xs : List Operand) (whole : ℕ) → xs ≡ [] → max most (greatest xs) ≡ whole → most ≡ whole
greatest-all most xs whole e so_far = let none : greatest xs ≡ 0 = ap greatest e in omega (arith, none, so_far)
