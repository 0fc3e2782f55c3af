-- What a form reads is derived.
use Rattle.std.proofs.Common.{◌≡◌, ℕ, ◌≤◌, List, [], ◌∷◌, ◌++◌, length, Option, Some, None, refl, sym, ap, ◌∙◌, arith, Bool, true, false, eqb-true, subst, append_assoc}
use Rattle.std.proofs.lemmas.Bool.Decides.{nat_tests}
use Rattle.std.specs.Prelude.{if◌then◌else◌, nat_le, codes, ◌||◌, ◌==◌}
use Rattle.std.proofs.lemmas.Option.{same_Some}
use Rattle.mini_sql.specs.Words.{Text}
use Rattle.mini_sql.specs.Tokens.{tokens, Token, closing, comma}
use Rattle.mini_sql.specs.Statements.{Form, Statement, Empty, Begin, Commit, Rollback, Set, SetLocal, Reset, ResetAll, Show, DiscardAll, Create, Drop, Insert, Select, Declare, Fetch, CloseCursor, Equals, Operand, read, ends, pass, take_value, either, or_else, items, definitions, columns_at, at_most_64, with_item, take_columns, take_operands, name_of, column_of, setting_of, operand_of, is_word, is_sign, block, assignment, set_name, set, reset, show, discard, create, definition_list, drop_table, insert, value_list, where_of, end_of, from_of, select, count_of, declared_over, rows_of, declare, fetch, close, parameters_of, of_word, of_other, of_cursor, of_tokens, phrase, statement, less_semicolon, without_semicolon}
use Rattle.mini_sql.specs.Laws.{StatementIsDerived}
use Rattle.mini_sql.specs.Grammar.{Says, Marks, Spells, Names, Sets, Gives, IsBlock, Columns, Definitions, Operands, Assignment, Filter, Chosen, IsTemporary, Derives}
use Rattle.mini_sql.specs.Grammar as g
use Rattle.mini_sql.specs.Lists.{Listing}

if_some : {A : Type 0} (b : Bool) (x : Option A) (s : A) → (if b then x else None) ≡ Some s → (b ≡ true) × (x ≡ Some s)
if_some true x s e = (refl, e)
if_some false x s e = absurd (cc)

-- what each step of a form has read
pass-elim : (P : List Token → Type 0) (test : Token → Bool) (f : Form) (ts : List Token) (s : Statement)
    → ((t : Token) (us : List Token) → test t ≡ true → f us ≡ Some s → P (t ∷ us)) → pass test f ts ≡ Some s → P ts
unfolding pass
pass-elim P test f [] s k e = absurd (cc)
pass-elim P test f (t ∷ us) s k e = let both = if_some (test t) (f us) s e in k t us both.0 both.1

value_some : {A : Type 0} (f : A → Form) (v : Option A) (us : List Token) (s : Statement) → read (λ a. f a us) v ≡ Some s → (a : A) × (v ≡ Some a) × (f a us ≡ Some s)
unfolding read
value_some f None us s e = absurd (cc)
value_some f (Some a) us s e = (a, refl, e)

value-elim : {A : Type 0} (P : List Token → Type 0) (value_of : Token → Option A) (f : A → Form) (ts : List Token) (s : Statement)
    → ((t : Token) (us : List Token) (a : A) → value_of t ≡ Some a → f a us ≡ Some s → P (t ∷ us)) → take_value value_of f ts ≡ Some s → P ts
unfolding take_value
value-elim P value_of f [] s k e = absurd (cc)
value-elim P value_of f (t ∷ us) s k e = let found = value_some f (value_of t) us s e in k t us found.0 found.1 found.2

ends-elim : (P : List Token → Statement → Type 0) (r : Statement) (ts : List Token) (s : Statement) → P [] r → ends r ts ≡ Some s → P ts s
unfolding ends
ends-elim P r [] s k e = subst (P []) (same_Some r s e) k
ends-elim P r (t ∷ ts) s k e = absurd (cc)

or_some : {A : Type 0} (P : Type 0) (x y : Option A) (s : A) → (x ≡ Some s → P) → (x ≡ None → y ≡ Some s → P) → or_else x y ≡ Some s → P
or_some P None y s k l e = l refl e
or_some P (Some a) y s k l e = k e

either-elim : (P : Type 0) (f h : Form) (ts : List Token) (s : Statement) → (f ts ≡ Some s → P) → (f ts ≡ None → h ts ≡ Some s → P) → either f h ts ≡ Some s → P
unfolding either
either-elim P f h ts s k l e = or_some P (f ts) (h ts) s k l e

or_true : (a b : Bool) → (a || b) ≡ true → (P : Type 0) → (a ≡ true → P) → (b ≡ true → P) → P
or_true true b e P k l = k refl
or_true false b e P k l = l e

-- lists
pub record Parted {A : Type 0} (Rel : List Token → List A → Type 0) (ts : List Token) (xs : List A) (rest : List Token) : Type 0 where
  pub front : List Token
  pub is : ts ≡ front ++ rest
  pub list : Rel front xs

one_item : {A : Type 0} (Rel : List Token → List A → Type 0) (t : Token) (rest : List Token) (v : Option A) (p : List A × List Token)
    → ((a : A) → v ≡ Some a → Rel (t ∷ []) (a ∷ [])) → with_item v (Some ([], rest)) ≡ Some p → Parted Rel (t ∷ rest) p.0 p.1
unfolding with_item
one_item Rel t rest None p one e = absurd (cc)
one_item Rel t rest (Some a) p one e =
    subst (λ q. Parted Rel (t ∷ rest) q.0 q.1) (same_Some (a ∷ [], rest) p e) (record { front = t ∷ []; is = refl; list = one a refl })

more_items : {A : Type 0} (Rel : List Token → List A → Type 0) (before ts : List Token) (v : Option A) (m : Listing A) (p : List A × List Token)
    → ((a : A) (xs : List A) (us : List Token) → v ≡ Some a → Rel us xs → Rel (before ++ us) (a ∷ xs)) → ((q : List A × List Token) → m ≡ Some q → Parted Rel ts q.0 q.1)
    → with_item v m ≡ Some p → Parted Rel (before ++ ts) p.0 p.1
unfolding with_item
more_items Rel before ts None None p more rec e = absurd (cc)
more_items Rel before ts None (Some q) p more rec e = absurd (cc)
more_items Rel before ts (Some a) None p more rec e = absurd (cc)
more_items Rel before ts (Some a) (Some q) p more rec e =
    let rest = rec q refl in
    subst (λ r. Parted Rel (before ++ ts) r.0 r.1) (same_Some (a ∷ q.0, q.1) p e)
    (record { front = before ++ rest.front; is = ap (λ us. before ++ us) rest.is ∙ sym (append_assoc before rest.front q.1); list = more a q.0 rest.front refl rest.list })

two_ways : {A : Type 0} (Rel : List Token → List A → Type 0) (t s : Token) (ts : List Token) (b : Bool) (v : Option A) (m : Listing A) (p : List A × List Token)
    → ((a : A) → v ≡ Some a → Rel (t ∷ []) (a ∷ [])) → ((a : A) (xs : List A) (us : List Token) → v ≡ Some a → b ≡ true → Rel us xs → Rel (t ∷ s ∷ us) (a ∷ xs))
    → ((q : List A × List Token) → m ≡ Some q → Parted Rel ts q.0 q.1) → with_item v (if b then m else Some ([], s ∷ ts)) ≡ Some p → Parted Rel (t ∷ s ∷ ts) p.0 p.1
two_ways Rel t s ts true v m p one more rec e = more_items Rel (t ∷ s ∷ []) ts v m p (λ a xs us h r. more a xs us h refl r) rec e
two_ways Rel t s ts false v m p one more rec e = one_item Rel t (s ∷ ts) v p one e

columns-parted : (ts : List Token) (p : List Text × List Token) → items column_of ts ≡ Some p → Parted Columns ts p.0 p.1
unfolding items
columns-parted [] p e = absurd (cc)
columns-parted (t ∷ []) p e = one_item Columns t [] (column_of t) p (λ a h. g.column h) e
columns-parted (t ∷ s ∷ ts) p e =
    two_ways Columns t s ts (is_sign comma s) (column_of t) (items column_of ts) p (λ a h. g.column h) (λ a xs us h c r. g.columns h c r) (columns-parted ts) e

operands-parted : (ts : List Token) (p : List Operand × List Token) → items operand_of ts ≡ Some p → Parted Operands ts p.0 p.1
unfolding items
operands-parted [] p e = absurd (cc)
operands-parted (t ∷ []) p e = one_item Operands t [] (operand_of t) p (λ a h. g.operand h) e
operands-parted (t ∷ s ∷ ts) p e =
    two_ways Operands t s ts (is_sign comma s) (operand_of t) (items operand_of ts) p (λ a h. g.operand h) (λ a xs us h c r. g.operands h c r) (operands-parted ts) e

one_definition : (t k : Token) (rest : List Token) (v : Option Text) (p : List Text × List Token) → is_word (codes "text") k ≡ true → column_of t ≡ v → with_item v (Some ([], rest)) ≡ Some p
    → Parted Definitions (t ∷ k ∷ rest) p.0 p.1
unfolding with_item
one_definition t k rest None p says names e = absurd (cc)
one_definition t k rest (Some a) p says names e =
    subst (λ q. Parted Definitions (t ∷ k ∷ rest) q.0 q.1) (same_Some (a ∷ [], rest) p e) (record { front = t ∷ k ∷ []; is = refl; list = g.definition names says })

definition_ways : (t k s : Token) (ts : List Token) (w b : Bool) (m : Listing Text) (p : List Text × List Token) → is_word (codes "text") k ≡ w → is_sign comma s ≡ b
    → ((q : List Text × List Token) → m ≡ Some q → Parted Definitions ts q.0 q.1) → (if w then with_item (column_of t) (if b then m else Some ([], s ∷ ts)) else None) ≡ Some p
    → Parted Definitions (t ∷ k ∷ s ∷ ts) p.0 p.1
definition_ways t k s ts false b m p says marks rec e = absurd (cc)
definition_ways t k s ts true true m p says marks rec e =
    more_items Definitions (t ∷ k ∷ s ∷ []) ts (column_of t) m p (λ a xs us h r. g.definitions h says marks r) rec e
definition_ways t k s ts true false m p says marks rec e = one_definition t k (s ∷ ts) (column_of t) p says refl e

definitions-parted : (ts : List Token) (p : List Text × List Token) → definitions ts ≡ Some p → Parted Definitions ts p.0 p.1
unfolding definitions
definitions-parted [] p e = absurd (cc)
definitions-parted (t ∷ []) p e = absurd (cc)
definitions-parted (t ∷ k ∷ []) p e = let both = if_some (is_word (codes "text") k) _ p e in one_definition t k [] (column_of t) p both.0 refl both.1
definitions-parted (t ∷ k ∷ s ∷ ts) p e =
    definition_ways t k s ts (is_word (codes "text") k) (is_sign comma s) (definitions ts) p refl refl (definitions-parted ts) e

-- the forms
block-derives : (r : Statement) (ts : List Token) (s : Statement) → block r ts ≡ Some s → IsBlock ts × (r ≡ s)
unfolding block
block-derives r ts s e =
    let one = λ (t : Token) (us : List Token) (says : IsBlock (t ∷ [])) (f : ends r us ≡ Some s). ends-elim (λ vs q. IsBlock (t ∷ vs) × (r ≡ q)) r us s (says, refl) f in
    either-elim (IsBlock ts × (r ≡ s)) _ _ ts s (ends-elim (λ vs q. IsBlock vs × (r ≡ q)) r ts s (g.bare, refl))
    (λ n. pass-elim (λ vs. IsBlock vs × (r ≡ s)) _ _ ts s (λ t us h f. or_true _ _ h (IsBlock (t ∷ us) × (r ≡ s)) (λ w. one t us (g.work w) f) (λ w. one t us (g.transaction w) f))) e

assignment-derives : (made : Text → Option Text → Statement) (P : Statement → Type 0) (ts : List Token) (s : Statement) → ((n : Text) (v : Option Text) → Assignment ts n v → P (made n v)) → assignment made ts ≡ Some s → P s
unfolding assignment
assignment-derives made P ts s k e =
    value-elim (λ us. ((n : Text) (v : Option Text) → Assignment us n v → P (made n v)) → P s) name_of _ ts s (λ t us n h f.
    pass-elim (λ ws. ((m : Text) (v : Option Text) → Assignment (t ∷ ws) m v → P (made m v)) → P s) _ _ us s (λ a ws b i.
    value-elim (λ xs. ((m : Text) (v : Option Text) → Assignment (t ∷ a ∷ xs) m v → P (made m v)) → P s) setting_of _ ws s (λ x xs v j l.
    ends-elim (λ ys q. ((m : Text) (v : Option Text) → Assignment (t ∷ a ∷ x ∷ ys) m v → P (made m v)) → P q) (made n v) xs s
    (λ kk. or_true _ _ b (P (made n v)) (λ y. kk n v (g.to h y j)) (λ y. kk n v (g.equals h y j))) l) i) f) e k

set_name-derives : (w : Token) (ts : List Token) (s : Statement) → Says w (codes "set") → set_name ts ≡ Some s → Derives (w ∷ ts) s
unfolding set_name
set_name-derives w ts s h e =
    either-elim (Derives (w ∷ ts) s) _ _ ts s
    (pass-elim (λ us. Derives (w ∷ us) s) _ _ ts s (λ t us i f. assignment-derives SetLocal (λ q. Derives (w ∷ t ∷ us) q) us s (λ n v a. g.set_local h i a) f))
    (λ n. assignment-derives Set (λ q. Derives (w ∷ ts) q) ts s (λ m v a. g.set h a)) e

set-derives : (w : Token) (ts : List Token) (s : Statement) → Says w (codes "set") → set ts ≡ Some s → Derives (w ∷ ts) s
unfolding set
set-derives w ts s h e =
    either-elim (Derives (w ∷ ts) s) _ _ ts s
    (pass-elim (λ us. Derives (w ∷ us) s) _ _ ts s (λ t us i f. assignment-derives Set (λ q. Derives (w ∷ t ∷ us) q) us s (λ n v a. g.set_session h i a) f))
    (λ n. set_name-derives w ts s h) e

show-derives : (w : Token) (ts : List Token) (s : Statement) → Says w (codes "show") → show ts ≡ Some s → Derives (w ∷ ts) s
unfolding show
show-derives w ts s h e = value-elim (λ us. Derives (w ∷ us) s) name_of _ ts s (λ t us n i f. ends-elim (λ vs q. Derives (w ∷ t ∷ vs) q) (Show n) us s (g.show h i) f) e

discard-derives : (w : Token) (ts : List Token) (s : Statement) → Says w (codes "discard") → discard ts ≡ Some s → Derives (w ∷ ts) s
unfolding discard
discard-derives w ts s h e = pass-elim (λ us. Derives (w ∷ us) s) _ _ ts s (λ t us i f. ends-elim (λ vs q. Derives (w ∷ t ∷ vs) q) DiscardAll us s (g.discard_all h i) f) e

not_all : (b : Bool) → (if b then Some ResetAll else None) ≡ None → b ≡ false
not_all true e = absurd (cc)
not_all false e = refl

reset-derives : (w : Token) (ts : List Token) (s : Statement) → Says w (codes "reset") → reset ts ≡ Some s → Derives (w ∷ ts) s
unfolding reset pass ends
reset-derives w ts s h e =
    either-elim (Derives (w ∷ ts) s) _ _ ts s
    (pass-elim (λ us. Derives (w ∷ us) s) _ _ ts s (λ t us i f. ends-elim (λ vs q. Derives (w ∷ t ∷ vs) q) ResetAll us s (g.reset_all h i) f))
    (λ n f. value-elim (λ us. pass (is_word (codes "all")) (ends ResetAll) us ≡ None → Derives (w ∷ us) s) name_of _ ts s (λ t us name i l.
    ends-elim (λ vs q. pass (is_word (codes "all")) (ends ResetAll) (t ∷ vs) ≡ None → Derives (w ∷ t ∷ vs) q) (Reset name) us s (λ none. g.reset h (not_all _ none) i) l) f n) e

drop-derives : (w : Token) (ts : List Token) (s : Statement) → Says w (codes "drop") → drop_table ts ≡ Some s → Derives (w ∷ ts) s
unfolding drop_table
drop-derives w ts s h e =
    pass-elim (λ us. Derives (w ∷ us) s) _ _ ts s (λ t us i f.
    value-elim (λ vs. Derives (w ∷ t ∷ vs) s) column_of _ us s (λ x vs n j l. ends-elim (λ ys q. Derives (w ∷ t ∷ x ∷ ys) q) (Drop n) vs s (g.drop h i j) l) f) e

-- a list in brackets that ends the text
closed : {A : Type 0} (P : List Token → Statement → Type 0) (Rel : List Token → List A → Type 0) (f : List A → Statement) (ts : List Token) (xs : List A) (rest : List Token) (s : Statement)
    → Parted Rel ts xs rest → ((front : List Token) (e : Token) → Rel front xs → Marks e closing → P (front ++ e ∷ []) (f xs)) → pass (is_sign closing) (ends (f xs)) rest ≡ Some s → P ts s
closed P Rel f ts xs rest s parts k e =
    subst (λ us. P us s) (sym parts.is) (pass-elim (λ us. P (parts.front ++ us) s) _ _ rest s (λ t us h i. ends-elim (λ vs q. P (parts.front ++ t ∷ vs) q) (f xs) us s (k parts.front t parts.list h) i) e)

fits_from : (n : ℕ) → nat_le n 64 ≡ true → n ≤ 64
fits_from n e = grind (arith, nat_tests)

limit_some : (x : Listing Text) (p : List Text × List Token) → at_most_64 x ≡ Some p → (x ≡ Some p) × (length p.0 ≤ 64)
unfolding at_most_64
limit_some None p e = absurd (cc)
limit_some (Some q) p e =
    let both = if_some (nat_le (length q.0) 64) (Some q) p e in
    let same : q ≡ p = same_Some q p both.1 in
    (both.1, subst (λ (r : List Text × List Token). length r.0 ≤ 64) same (fits_from (length q.0) both.0))

read_listing : {A : Type 0} (f : List A → Form) (x : Listing A) (s : Statement) → read (λ p. f p.0 p.1) x ≡ Some s → (p : List A × List Token) × (x ≡ Some p) × (f p.0 p.1 ≡ Some s)
unfolding read
read_listing f None s e = absurd (cc)
read_listing f (Some p) s e = (p, refl, e)

columns-read : (typed : Bool) (f : List Text → Form) (ts : List Token) (s : Statement) → take_columns typed f ts ≡ Some s
    → (p : List Text × List Token) × (columns_at typed ts ≡ Some p) × (length p.0 ≤ 64) × (f p.0 p.1 ≡ Some s)
unfolding take_columns
columns-read typed f ts s e =
    let found = read_listing f (at_most_64 (columns_at typed ts)) s e in
    let limit = limit_some (columns_at typed ts) found.0 found.1 in
    (found.0, limit.0, limit.1, found.2)

create-derives : (w : Token) (ts : List Token) (s : Statement) → Says w (codes "create") → create ts ≡ Some s → Derives (w ∷ ts) s
unfolding create definition_list columns_at
create-derives w ts s h e =
    pass-elim (λ us. Derives (w ∷ us) s) _ _ ts s (λ k us i f.
    pass-elim (λ vs. Derives (w ∷ k ∷ vs) s) _ _ us s (λ u vs j l.
    value-elim (λ xs. Derives (w ∷ k ∷ u ∷ xs) s) column_of _ vs s (λ n xs t m o.
    pass-elim (λ ys. Derives (w ∷ k ∷ u ∷ n ∷ ys) s) _ _ xs s (λ b ys q r.
    let found = columns-read true _ ys s r in
    closed (λ zs v. Derives (w ∷ k ∷ u ∷ n ∷ b ∷ zs) v) Definitions (Create t) ys found.0.0 found.0.1 s (definitions-parted ys found.0 found.1)
    (λ front c d marks. g.create front c h (or_true _ _ i (IsTemporary k) (λ y. g.temp y) (λ y. g.temporary y)) j m q d found.2 marks) found.3) o) l) f) e

insert-derives : (w : Token) (ts : List Token) (s : Statement) → Says w (codes "insert") → insert ts ≡ Some s → Derives (w ∷ ts) s
unfolding insert value_list take_operands
insert-derives w ts s h e =
    pass-elim (λ us. Derives (w ∷ us) s) _ _ ts s (λ k us i f.
    value-elim (λ xs. Derives (w ∷ k ∷ xs) s) column_of _ us s (λ n xs t m o.
    pass-elim (λ vs. Derives (w ∷ k ∷ n ∷ vs) s) _ _ xs s (λ u vs j l.
    pass-elim (λ ys. Derives (w ∷ k ∷ n ∷ u ∷ ys) s) _ _ vs s (λ b ys q r.
    let found = read_listing _ (items operand_of ys) s r in
    closed (λ zs v. Derives (w ∷ k ∷ n ∷ u ∷ b ∷ zs) v) Operands (Insert t) ys found.0.0 found.0.1 s (operands-parted ys found.0 found.1)
    (λ front c d marks. g.insert front c h i m j q d marks) found.2) l) o) f) e

end-derives : (P : List Token → Statement → Type 0) (cs : List Text) (t : Text) (ts : List Token) (s : Statement) → ((us : List Token) (o : Option Equals) → Filter us o → P us (Select cs t o))
    → end_of cs t ts ≡ Some s → P ts s
unfolding end_of where_of
end-derives P cs t ts s k e =
    either-elim (P ts s) _ _ ts s (ends-elim P (Select cs t None) ts s (k [] None g.none))
    (λ none no. pass-elim (λ us. ((vs : List Token) (o : Option Equals) → Filter vs o → P vs (Select cs t o)) → P us s) _ _ ts s (λ w us h f kk.
    value-elim (λ vs. P (w ∷ vs) s) column_of _ us s (λ n vs c i l.
    pass-elim (λ xs. P (w ∷ n ∷ xs) s) _ _ vs s (λ q xs j m.
    value-elim (λ ys. P (w ∷ n ∷ q ∷ ys) s) operand_of _ xs s (λ x ys v o r.
    ends-elim (λ zs u. P (w ∷ n ∷ q ∷ x ∷ zs) u) (Select cs t (Some (record { column = c; to = v }))) ys s
    (kk (w ∷ n ∷ q ∷ x ∷ []) (Some (record { column = c; to = v })) (g.where_equals h i j o)) r) m) l) f) no k) e

from-derives : (P : List Token → Statement → Type 0) (cs : List Text) (ts : List Token) (s : Statement)
    → ((f n : Token) (us : List Token) (t : Text) (o : Option Equals) → Says f (codes "from") → Names n t → Filter us o → P (f ∷ n ∷ us) (Select cs t o)) → from_of cs ts ≡ Some s → P ts s
unfolding from_of
from-derives P cs ts s k e =
    pass-elim (λ us. P us s) _ _ ts s (λ f us h i.
    value-elim (λ vs. P (f ∷ vs) s) column_of _ us s (λ n vs t j l. end-derives (λ xs u. P (f ∷ n ∷ xs) u) cs t vs s (λ xs o m. k f n xs t o h j m) l) i) e

select-derives : (w : Token) (ts : List Token) (s : Statement) → Says w (codes "select") → select ts ≡ Some s → Derives (w ∷ ts) s
unfolding select columns_at
select-derives w ts s h e =
    either-elim (Derives (w ∷ ts) s) _ _ ts s
    (pass-elim (λ us. Derives (w ∷ us) s) _ _ ts s (λ a us i l.
    from-derives (λ vs u. Derives (w ∷ a ∷ vs) u) [] us s (λ f n xs t o j m r. g.select (a ∷ []) f n xs h (g.every i) j m r) l))
    (λ none l.
    let found = columns-read false _ ts s l in
    let parts = columns-parted ts found.0 found.1 in
    subst (λ us. Derives (w ∷ us) s) (sym parts.is)
    (from-derives (λ vs u. Derives (w ∷ (parts.front ++ vs)) u) found.0.0 found.0.1 s (λ f n xs t o j m r. g.select parts.front f n xs h (g.some parts.list found.2) j m r) found.3)) e

-- a cursor's SELECT has no parameters
over-elim : (P : Type 0) (c : Text) (o : Option Statement) (s : Statement)
    → ((cs : List Text) (t : Text) (w : Option Equals) → o ≡ Some (Select cs t w) → parameters_of (Select cs t w) ≡ 0 → Declare c cs t w ≡ s → P) → declared_over c o ≡ Some s → P
over-elim P c None s k e = absurd (cc)
over-elim P c (Some (Select cs t w)) s k e =
    let both = if_some (parameters_of (Select cs t w) == 0) (Some (Declare c cs t w)) s e in
    k cs t w refl (eqb-true (parameters_of (Select cs t w)) 0 both.0) (same_Some (Declare c cs t w) s both.1)
over-elim P c (Some Empty) s k e = absurd (cc)
over-elim P c (Some Begin) s k e = absurd (cc)
over-elim P c (Some Commit) s k e = absurd (cc)
over-elim P c (Some Rollback) s k e = absurd (cc)
over-elim P c (Some (Set n v)) s k e = absurd (cc)
over-elim P c (Some (SetLocal n v)) s k e = absurd (cc)
over-elim P c (Some (Reset n)) s k e = absurd (cc)
over-elim P c (Some ResetAll) s k e = absurd (cc)
over-elim P c (Some (Show n)) s k e = absurd (cc)
over-elim P c (Some DiscardAll) s k e = absurd (cc)
over-elim P c (Some (Create t cs)) s k e = absurd (cc)
over-elim P c (Some (Drop t)) s k e = absurd (cc)
over-elim P c (Some (Insert t vs)) s k e = absurd (cc)
over-elim P c (Some (Declare d cs t w)) s k e = absurd (cc)
over-elim P c (Some (Fetch n d)) s k e = absurd (cc)
over-elim P c (Some (CloseCursor d)) s k e = absurd (cc)

declare-derives : (w : Token) (ts : List Token) (s : Statement) → Says w (codes "declare") → declare ts ≡ Some s → Derives (w ∷ ts) s
unfolding declare rows_of
declare-derives w ts s says e =
    value-elim (λ us. Derives (w ∷ us) s) column_of _ ts s (λ n us cursor names e1.
    pass-elim (λ vs. Derives (w ∷ n ∷ vs) s) _ _ us s (λ c vs is_cursor e2.
    pass-elim (λ xs. Derives (w ∷ n ∷ c ∷ xs) s) _ _ vs s (λ v xs is_with e3.
    pass-elim (λ ys. Derives (w ∷ n ∷ c ∷ v ∷ ys) s) _ _ xs s (λ h ys holds e4.
    pass-elim (λ zs. Derives (w ∷ n ∷ c ∷ v ∷ h ∷ zs) s) _ _ ys s (λ f zs is_for e5.
    pass-elim (λ qs. Derives (w ∷ n ∷ c ∷ v ∷ h ∷ f ∷ qs) s) _ _ zs s (λ u qs selects e6.
    over-elim (Derives (w ∷ n ∷ c ∷ v ∷ h ∷ f ∷ u ∷ qs) s) cursor (select qs) s (λ cs t filter is none same.
    subst (Derives (w ∷ n ∷ c ∷ v ∷ h ∷ f ∷ u ∷ qs)) same (g.declare qs says names is_cursor is_with holds is_for selects (select-derives u qs (Select cs t filter) selects is) none)) e6) e5) e4) e3) e2) e1) e

fetch-derives : (w : Token) (ts : List Token) (s : Statement) → Says w (codes "fetch") → fetch ts ≡ Some s → Derives (w ∷ ts) s
unfolding fetch
fetch-derives w ts s h e =
    value-elim (λ us. Derives (w ∷ us) s) count_of _ ts s (λ n us count i f.
    pass-elim (λ vs. Derives (w ∷ n ∷ vs) s) _ _ us s (λ t vs j l.
    value-elim (λ xs. Derives (w ∷ n ∷ t ∷ xs) s) column_of _ vs s (λ c xs cursor m o.
    ends-elim (λ ys q. Derives (w ∷ n ∷ t ∷ c ∷ ys) q) (Fetch count cursor) xs s (g.fetch h i j m) o) l) f) e

close-derives : (w : Token) (ts : List Token) (s : Statement) → Says w (codes "close") → close ts ≡ Some s → Derives (w ∷ ts) s
unfolding close
close-derives w ts s h e = value-elim (λ us. Derives (w ∷ us) s) column_of _ ts s (λ t us n i f. ends-elim (λ vs q. Derives (w ∷ t ∷ vs) q) (CloseCursor n) us s (g.close h i) f) e

-- by the first word
if_form : (b : Bool) (f h : Form) (ts : List Token) (s : Statement) (P : Type 0) → (b ≡ true → f ts ≡ Some s → P) → (h ts ≡ Some s → P) → (if b then f else h) ts ≡ Some s → P
if_form true f h ts s P k l e = k refl e
if_form false f h ts s P k l e = l e

block_of : (w : Token) (r : Statement) (ts : List Token) (s : Statement) → (IsBlock ts → Derives (w ∷ ts) r) → block r ts ≡ Some s → Derives (w ∷ ts) s
block_of w r ts s k e = let both = block-derives r ts s e in subst (Derives (w ∷ ts)) both.1 (k both.0)

cursor-derives : (w : Token) (ts : List Token) (s : Statement) → of_cursor w ts ≡ Some s → Derives (w ∷ ts) s
cursor-derives w ts s e =
    if_form (is_word (codes "declare") w) _ _ ts s (Derives (w ∷ ts) s) (λ h. declare-derives w ts s h)
    (if_form (is_word (codes "fetch") w) _ _ ts s (Derives (w ∷ ts) s) (λ h. fetch-derives w ts s h)
    (if_form (is_word (codes "close") w) _ _ ts s (Derives (w ∷ ts) s) (λ h. close-derives w ts s h) (λ none. absurd (cc)))) e

other-derives : (w : Token) (ts : List Token) (s : Statement) → of_other w ts ≡ Some s → Derives (w ∷ ts) s
other-derives w ts s e =
    if_form (is_word (codes "discard") w) _ _ ts s (Derives (w ∷ ts) s) (λ h. discard-derives w ts s h)
    (if_form (is_word (codes "create") w) _ _ ts s (Derives (w ∷ ts) s) (λ h. create-derives w ts s h)
    (if_form (is_word (codes "drop") w) _ _ ts s (Derives (w ∷ ts) s) (λ h. drop-derives w ts s h)
    (if_form (is_word (codes "insert") w) _ _ ts s (Derives (w ∷ ts) s) (λ h. insert-derives w ts s h)
    (if_form (is_word (codes "select") w) _ _ ts s (Derives (w ∷ ts) s) (λ h. select-derives w ts s h) (cursor-derives w ts s))))) e

word-derives : (w : Token) (ts : List Token) (s : Statement) → of_word w ts ≡ Some s → Derives (w ∷ ts) s
word-derives w ts s e =
    if_form (is_word (codes "begin") w) _ _ ts s (Derives (w ∷ ts) s) (λ h. block_of w Begin ts s (g.begin h))
    (if_form (is_word (codes "commit") w) _ _ ts s (Derives (w ∷ ts) s) (λ h. block_of w Commit ts s (g.commit h))
    (if_form (is_word (codes "rollback") w) _ _ ts s (Derives (w ∷ ts) s) (λ h. block_of w Rollback ts s (g.rollback h))
    (if_form (is_word (codes "set") w) _ _ ts s (Derives (w ∷ ts) s) (λ h. set-derives w ts s h)
    (if_form (is_word (codes "reset") w) _ _ ts s (Derives (w ∷ ts) s) (λ h. reset-derives w ts s h)
    (if_form (is_word (codes "show") w) _ _ ts s (Derives (w ∷ ts) s) (λ h. show-derives w ts s h) (other-derives w ts s)))))) e

tokens-derive : (ts : List Token) (s : Statement) → of_tokens ts ≡ Some s → Derives ts s
unfolding of_tokens
tokens-derive [] s e = subst (Derives []) (same_Some Empty s e) g.empty
tokens-derive (w ∷ ts) s e = word-derives w ts s e

phrase_derives : (o : Option (List Token)) (s : Statement) → read of_tokens (less_semicolon o) ≡ Some s → (ts : List Token) × (o ≡ Some ts) × Derives (without_semicolon ts) s
unfolding read less_semicolon
phrase_derives None s e = absurd (cc)
phrase_derives (Some ts) s e = (ts, refl, tokens-derive (without_semicolon ts) s e)

pub statement-derives : StatementIsDerived
unfolding statement phrase
statement-derives t s e = phrase_derives (tokens t) s e
