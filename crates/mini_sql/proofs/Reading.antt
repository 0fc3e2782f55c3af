-- Reading tokens one by one.
use Rattle.std.proofs.Common.{◌≡◌, ℕ, ◌<◌, List, [], ◌∷◌, length, Option, Some, None, Result, Ok, Err, refl, sym, ap, ◌∙◌, arith, Bool, true, false}
use Rattle.std.specs.Prelude.{if◌then◌else◌, ◌||◌, IsErr, is_some, codes, MatchResult}
use Rattle.std.specs.Borrow.{Bor}
use Rattle.std.specs.Iterator.{MakesProgress, item_count}
use Rattle.std.proofs.Common.{subst}
use Rattle.mini_sql.specs.declared.SqlError.{SqlError}
use Rattle.mini_sql.specs.Words.{Text}
use Rattle.mini_sql.specs.Tokens.{Token, Sign, after_token, comma}
use Rattle.mini_sql.specs.Statements.{phrase, read, is_sign, is_word, items, definitions, columns_at, with_item, column_of}
use Rattle.mini_sql.specs.Reading.{has_token, passed, taken, with_value, with_tokens, Follows, Takes}
use Rattle.mini_sql.specs.Lists.{Listing, items_of, more, IsItem, GoesOn, listing_from}

-- an answer that is a fault
pub follows-err : (r : Result (Bor Text) SqlError) (o : Option (List Token)) → IsErr r → o ≡ None → Follows r o
follows-err (Ok x) o e n = absurd (cc)
follows-err (Err x) o e n = n

pub takes-err : {C A : Type 0} (view : C → A) (r : Result (C × Bor Text) SqlError) (o : Option (A × List Token)) → IsErr r → o ≡ None → Takes view r o
takes-err view (Ok x) o e n = absurd (cc)
takes-err view (Err x) o e n = n

pub item-err : {C A : Type 0} (view : C → A) (list : List Token → Listing A) (r : Result (C × Bor Text) SqlError) (o : Option (List Token)) → IsErr r → read list o ≡ None → IsItem view list r o
item-err view list (Ok x) o e n = absurd (cc)
item-err view list (Err x) o e n = n

-- what follows a first token
pub passed-token : (test : Token → Bool) (t : Token) (o rest : Option (List Token)) → o ≡ after_token t rest → true ≡ test t → passed test o ≡ rest
unfolding passed
passed-token test t o None e h = ap (passed test) e
passed-token test t o (Some ts) e h = ap (passed test) e ∙ (rw (← h) refl)

pub passed-other : (test : Token → Bool) (t : Token) (o rest : Option (List Token)) → o ≡ after_token t rest → false ≡ test t → passed test o ≡ None
unfolding passed
passed-other test t o None e h = ap (passed test) e
passed-other test t o (Some ts) e h = ap (passed test) e ∙ (rw (← h) refl)

pub passed-none : (test : Token → Bool) (o : Option (List Token)) → has_token o ≡ false → passed test o ≡ None
unfolding passed
passed-none test None e = refl
passed-none test (Some []) e = refl
passed-none test (Some (t ∷ ts)) e = absurd (cc)

pub first_or : (a b : Bool) → true ≡ a → true ≡ (a || b)
first_or a b e = rw (← e) refl

pub second_or : (a b : Bool) → false ≡ a → true ≡ b → true ≡ (a || b)
second_or a b e f = rw (← e, ← f) refl

pub neither : (a b : Bool) → false ≡ a → false ≡ b → false ≡ (a || b)
neither a b e f = rw (← e, ← f) refl

pub taken-token : {A : Type 0} (value_of : Token → Option A) (t : Token) (a : A) (o rest : Option (List Token)) → o ≡ after_token t rest → value_of t ≡ Some a → taken value_of o ≡ with_value a rest
unfolding taken
taken-token value_of t a o None e is = ap (taken value_of) e
taken-token value_of t a o (Some ts) e is = ap (taken value_of) e ∙ ap (λ v. with_tokens v ts) is

pub taken-other : {A : Type 0} (value_of : Token → Option A) (t : Token) (o rest : Option (List Token)) → o ≡ after_token t rest → value_of t ≡ None → taken value_of o ≡ None
unfolding taken
taken-other value_of t o None e is = ap (taken value_of) e
taken-other value_of t o (Some ts) e is = ap (taken value_of) e ∙ ap (λ v. with_tokens v ts) is

pub taken-none : {A : Type 0} (value_of : Token → Option A) (o : Option (List Token)) → has_token o ≡ false → taken value_of o ≡ None
unfolding taken
taken-none value_of None e = refl
taken-none value_of (Some []) e = refl
taken-none value_of (Some (t ∷ ts)) e = absurd (cc)

-- the items of a list, by its first
items-more : {A : Type 0} (item_of : Token → Option A) (t : Token) (ts : List Token) → items item_of (t ∷ ts) ≡ with_item (item_of t) (more (items item_of) (Some ts))
unfolding items
items-more item_of t [] = refl
items-more item_of t (s ∷ ts) = refl

items_nil : {A : Type 0} (item_of : Token → Option A) → items item_of [] ≡ None
unfolding items
items_nil item_of = refl

no_item : {A : Type 0} (m : Listing A) → with_item None m ≡ None
unfolding with_item
no_item None = refl
no_item (Some p) = refl

item_none : {A : Type 0} (a : Option A) → with_item a None ≡ None
unfolding with_item
item_none None = refl
item_none (Some a) = refl

part_0 : {A B : Type 0} → A → Option (A × B) → A
part_0 a None = a
part_0 a (Some p) = p.0

part_1 : {A B : Type 0} → B → Option (A × B) → B
part_1 b None = b
part_1 b (Some p) = p.1

value_at : {A : Type 0} (list : List Token → Listing A) (a : A) (v : Option A) (ts : List Token) (rest : Option (List Token)) → with_tokens v ts ≡ with_value a rest
    → with_item v (more list (Some ts)) ≡ with_item (Some a) (more list rest)
unfolding part_0 part_1
value_at list a None ts None e = no_item _ ∙ sym (item_none (Some a))
value_at list a None ts (Some us) e = absurd (cc)
value_at list a (Some b) ts None e = absurd (cc)
value_at list a (Some b) ts (Some us) e = let first : b ≡ a = ap (part_0 b) e in let rest : ts ≡ us = ap (part_1 ts) e in rw (first, rest) refl

pub items-value : {A : Type 0} (item_of : Token → Option A) (a : A) (o rest : Option (List Token)) → taken item_of o ≡ with_value a rest → read (items item_of) o ≡ with_item (Some a) (more (items item_of) rest)
unfolding taken read
items-value item_of a None None e = sym (item_none (Some a))
items-value item_of a None (Some us) e = absurd (cc)
items-value item_of a (Some []) None e = items_nil item_of ∙ sym (item_none (Some a))
items-value item_of a (Some []) (Some us) e = absurd (cc)
items-value item_of a (Some (t ∷ ts)) rest e = items-more item_of t ts ∙ value_at (items item_of) a (item_of t) ts rest e

none_at : {A : Type 0} (list : List Token → Listing A) (v : Option A) (ts : List Token) → with_tokens v ts ≡ None → with_item v (more list (Some ts)) ≡ None
none_at list None ts e = no_item _
none_at list (Some b) ts e = absurd (cc)

pub items-none : {A : Type 0} (item_of : Token → Option A) (o : Option (List Token)) → taken item_of o ≡ None → read (items item_of) o ≡ None
unfolding taken read
items-none item_of None e = refl
items-none item_of (Some []) e = items_nil item_of
items-none item_of (Some (t ∷ ts)) e = items-more item_of t ts ∙ none_at (items item_of) (item_of t) ts e

pub columns-bare : (c : Text) (o rest : Option (List Token)) → taken column_of o ≡ with_value c rest → read (columns_at false) o ≡ with_item (Some c) (more (columns_at false) rest)
unfolding columns_at
columns-bare c o rest e = items-value column_of c o rest e

pub columns-bare_none : (o : Option (List Token)) → taken column_of o ≡ None → read (columns_at false) o ≡ None
unfolding columns_at
columns-bare_none o e = items-none column_of o e

definitions-more : (t k : Token) (ts : List Token) → definitions (t ∷ k ∷ ts) ≡ (if is_word (codes "text") k then with_item (column_of t) (more definitions (Some ts)) else None)
unfolding definitions
definitions-more t k [] = refl
definitions-more t k (s ∷ ts) = refl

cons_nil : {A : Type 0} {x : A} {xs : List A} → (x ∷ xs) ≡ [] → ⊥
cons_nil e = cc

nil_cons : {A : Type 0} {x : A} {xs : List A} → [] ≡ (x ∷ xs) → ⊥
nil_cons e = cc

definition_at : (c : Text) (v : Option Text) (b : Bool) (ts : List Token) → v ≡ Some c
    → (if b then with_item v (more definitions (Some ts)) else None) ≡ with_item (Some c) (more definitions (if b then Some ts else None))
definition_at c v true ts e = ap (λ w. with_item w (more definitions (Some ts))) e
definition_at c v false ts e = sym (item_none (Some c))

no_definition : (v : Option Text) (b : Bool) (ts : List Token) → v ≡ None → (if b then with_item v (more definitions (Some ts)) else None) ≡ None
no_definition v true ts e = ap (λ w. with_item w (more definitions (Some ts))) e ∙ no_item _
no_definition v false ts e = refl

tokens_none : {A : Type 0} (v : Option A) (ts : List Token) → with_tokens v ts ≡ None → v ≡ None
tokens_none None ts e = refl
tokens_none (Some a) ts e = absurd (cc)

tokens_some : {A : Type 0} (v : Option A) (a : A) (ts us : List Token) → with_tokens v ts ≡ Some (a, us) → (v ≡ Some a) × (ts ≡ us)
unfolding part_0 part_1
tokens_some None a ts us e = absurd (cc)
tokens_some (Some b) a ts us e = (ap Some (ap (part_0 b) e), ap (part_1 ts) e)

definitions-none : (o : Option (List Token)) → taken column_of o ≡ None → read definitions o ≡ None
unfolding taken read definitions
definitions-none None e = refl
definitions-none (Some []) e = refl
definitions-none (Some (t ∷ [])) e = refl
definitions-none (Some (t ∷ k ∷ ts)) e = definitions-more t k ts ∙ no_definition (column_of t) _ ts (tokens_none (column_of t) (k ∷ ts) e)

definitions-value : (c : Text) (o rest next : Option (List Token)) → taken column_of o ≡ with_value c rest → passed (is_word (codes "text")) rest ≡ next
    → read definitions o ≡ with_item (Some c) (more definitions next)
unfolding taken read passed definitions
definitions-value c o None next e p = definitions-none o e ∙ sym (item_none (Some c)) ∙ ap (λ n. with_item (Some c) (more definitions n)) p
definitions-value c None (Some us) next e p = absurd (cc)
definitions-value c (Some []) (Some us) next e p = absurd (cc)
definitions-value c (Some (t ∷ [])) (Some []) next e p = sym (item_none (Some c)) ∙ ap (λ n. with_item (Some c) (more definitions n)) p
definitions-value c (Some (t ∷ k ∷ ts)) (Some []) next e p = absurd (cons_nil (tokens_some (column_of t) c (k ∷ ts) [] e).1)
definitions-value c (Some (t ∷ [])) (Some (k ∷ us)) next e p = absurd (nil_cons (tokens_some (column_of t) c [] (k ∷ us) e).1)
definitions-value c (Some (t ∷ l ∷ ts)) (Some (k ∷ us)) next e p =
    let same = tokens_some (column_of t) c (l ∷ ts) (k ∷ us) e in
    definitions-more t l ts ∙ definition_at c (column_of t) (is_word (codes "text") l) ts same.0
    ∙ ap (λ n. with_item (Some c) (more definitions n)) (ap (λ v. passed (is_word (codes "text")) (Some v)) same.1 ∙ p)

pub column-typed : (typed : Bool) (c : Text) (o rest next : Option (List Token)) → typed ≡ true → taken column_of o ≡ with_value c rest → passed (is_word (codes "text")) rest ≡ next
    → read (columns_at typed) o ≡ with_item (Some c) (more (columns_at typed) next)
unfolding columns_at
column-typed true c o rest next t e p = definitions-value c o rest next e p
column-typed false c o rest next t e p = absurd (cc)

pub column-typed_none : (typed : Bool) (c : Text) (o rest : Option (List Token)) → typed ≡ true → taken column_of o ≡ with_value c rest → passed (is_word (codes "text")) rest ≡ None
    → read (columns_at typed) o ≡ None
column-typed_none typed c o rest t e p = column-typed typed c o rest None t e p ∙ item_none (Some c)

pub column-bare : (typed : Bool) (c : Text) (o rest : Option (List Token)) → typed ≡ false → taken column_of o ≡ with_value c rest
    → read (columns_at typed) o ≡ with_item (Some c) (more (columns_at typed) rest)
unfolding columns_at
column-bare true c o rest t e = absurd (cc)
column-bare false c o rest t e = items-value column_of c o rest e

pub column-none : (typed : Bool) (o : Option (List Token)) → taken column_of o ≡ None → read (columns_at typed) o ≡ None
unfolding columns_at
column-none true o e = definitions-none o e
column-none false o e = items-none column_of o e

-- a list and the next of its items
no_comma : (b : Bool) (ts : List Token) → (if b then Some ts else None) ≡ None → b ≡ false
no_comma true ts f = absurd (cc)
no_comma false ts f = refl

pub more-comma : {A : Type 0} (list : List Token → Listing A) (o rest : Option (List Token)) → o ≡ after_token (Sign comma) rest → more list o ≡ read list rest
unfolding read
more-comma list o None e = ap (more list) e
more-comma list o (Some ts) e = ap (more list) e

abbrev pub nothing_more : {A : Type 0} → Option (List Token) → Listing A
nothing_more None = None
nothing_more (Some ts) = Some ([], ts)

pub more-end : {A : Type 0} (list : List Token → Listing A) (o : Option (List Token)) → passed (is_sign comma) o ≡ None → more list o ≡ nothing_more o
unfolding passed
more-end list None e = refl
more-end list (Some []) e = refl
more-end list (Some (t ∷ ts)) e = rw (no_comma (is_sign comma t) ts e) refl

goes-some : {A : Type 0} (list : List Token → Listing A) (next : Option (Bor Text)) (o : Option (List Token)) → GoesOn next o → is_some (more list o) ≡ true → is_some (listing_from list next) ≡ true
goes-some list None o g s = refl
goes-some list (Some rest) o g s = ap is_some (sym (more-comma list o _ g)) ∙ s

nothing_items : {A : Type 0} (o : Option (List Token)) → items_of {A = A} (nothing_more o) ≡ []
nothing_items None = refl
nothing_items (Some ts) = refl

goes-items : {A : Type 0} (list : List Token → Listing A) (next : Option (Bor Text)) (o : Option (List Token)) → GoesOn next o → items_of (more list o) ≡ items_of (listing_from list next)
goes-items list None o g = ap items_of (more-end list o g) ∙ nothing_items o
goes-items list (Some rest) o g = ap items_of (more-comma list o _ g)

some-item : {A : Type 0} (a : A) (m : Listing A) → is_some (with_item (Some a) m) ≡ true → (is_some m ≡ true) × (items_of (with_item (Some a) m) ≡ a ∷ items_of m)
unfolding with_item
some-item a None s = absurd (cc)
some-item a (Some p) s = (refl, refl)

pub next-some : {A : Type 0} (list : List Token → Listing A) (a : A) (next : Option (Bor Text)) (whole o : Option (List Token)) → is_some (read list whole) ≡ true
    → read list whole ≡ with_item (Some a) (more list o) → GoesOn next o → is_some (listing_from list next) ≡ true
next-some list a next whole o s e g = goes-some list next o g (some-item a (more list o) (ap is_some (sym e) ∙ s)).0

pub next-items : {A : Type 0} (list : List Token → Listing A) (a : A) (next : Option (Bor Text)) (whole o : Option (List Token)) → is_some (read list whole) ≡ true
    → read list whole ≡ with_item (Some a) (more list o) → GoesOn next o → items_of (read list whole) ≡ a ∷ items_of (listing_from list next)
next-items list a next whole o s e g =
    ap items_of e ∙ (some-item a (more list o) (ap is_some (sym e) ∙ s)).1 ∙ ap (λ xs. a ∷ xs) (goes-items list next o g)

pub sign-err : (r : Result (Bor Text) SqlError) (o : Option (List Token)) (s : ℕ) → IsErr r → passed (is_sign s) o ≡ None → MatchResult r (λ rest. o ≡ after_token (Sign s) (phrase rest.now)) (λ e. passed (is_sign s) o ≡ None)
sign-err (Ok x) o s e n = absurd (cc)
sign-err (Err x) o s e n = n

-- an iterator over what is left gave the first
pub goes-first : {S A B : Type 0} (can : S → Type 0) → ((s : S) → can s) → (rest : S → List B) (s t : S) (x : A) (b : B) → rest s ≡ b ∷ rest t → MakesProgress can (item_count rest) s (Some x) t
goes-first can always rest s t x b e = record {
  on = λ _. (always t, tt, subst (λ l. length (rest t) < length l) (sym e) (omega arith));
  keeps = always t;
  rests = λ _. tt;
}
