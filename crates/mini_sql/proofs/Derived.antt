-- What is derived is read.
use Rattle.std.proofs.Common.{◌≡◌, ℕ, ◌≤◌, List, [], ◌∷◌, ◌++◌, length, Option, Some, None, refl, sym, ap, ◌∙◌, Bool, true, false, eqb-true}
use Rattle.std.specs.Prelude.{if◌then◌else◌, nat_le, codes, ◌||◌, ◌==◌}
use Rattle.std.proofs.lemmas.Bool.{le-leb}
use Rattle.std.proofs.lemmas.Slice.Eq.{bytes_eq-Decides}
use Rattle.mini_sql.specs.Words.{Text, folded}
use Rattle.mini_sql.specs.Tokens.{Token, Name, Literal, Digits, Parameter, Sign, closing, star, comma, equal}
use Rattle.mini_sql.specs.Statements.{Form, Statement, Begin, Commit, Rollback, Set, SetLocal, Select, Declare, Equals, Operand, read, ends, pass, take_value, either, or_else, items, definitions, columns_at, at_most_64, with_item, take_columns, take_operands, name_of, column_of, operand_of, is_word, is_sign, block, assignment, set_name, set, reset, show, discard, create, definition_list, drop_table, insert, value_list, where_of, end_of, from_of, select, declared_over, rows_of, declare, fetch, close, parameters_of, of_tokens, phrase, statement, less_semicolon}
use Rattle.mini_sql.specs.Grammar.{Says, Marks, IsBlock, Columns, Definitions, Operands, Assignment, Filter, Chosen, IsTemporary, Derives}
use Rattle.mini_sql.specs.Grammar as g
use Rattle.mini_sql.specs.Laws.{DerivedIsStatement, DerivesOne}

-- one step of a form
pass_is : (test : Token → Bool) (f : Form) (t : Token) (us : List Token) → test t ≡ true → pass test f (t ∷ us) ≡ f us
unfolding pass
pass_is test f t us h = rw h refl

pass_no : (test : Token → Bool) (f : Form) (t : Token) (us : List Token) → test t ≡ false → pass test f (t ∷ us) ≡ None
unfolding pass
pass_no test f t us h = rw h refl

value_is : {A : Type 0} (value_of : Token → Option A) (f : A → Form) (t : Token) (us : List Token) (a : A) → value_of t ≡ Some a → take_value value_of f (t ∷ us) ≡ f a us
unfolding take_value read
value_is value_of f t us a h = rw h refl

end_is : (s : Statement) → ends s [] ≡ Some s
unfolding ends
end_is s = refl

no_end : (s : Statement) (t : Token) (ts : List Token) → ends s (t ∷ ts) ≡ None
unfolding ends
no_end s t ts = refl

first_is : (f h : Form) (ts : List Token) (s : Statement) → f ts ≡ Some s → either f h ts ≡ Some s
unfolding either
first_is f h ts s e = ap (λ x. or_else x (h ts)) e

second_is : (f h : Form) (ts : List Token) (r : Option Statement) → f ts ≡ None → h ts ≡ r → either f h ts ≡ r
unfolding either
second_is f h ts r e i = ap (λ x. or_else x (h ts)) e ∙ i

left_holds : (a b : Bool) → a ≡ true → (a || b) ≡ true
left_holds a b e = rw e refl

right_holds : (a b : Bool) → b ≡ true → (a || b) ≡ true
right_holds true b e = refl
right_holds false b e = e

-- a word is no sign, and no sign is another
word_no_sign : (w : Text) (s : ℕ) (t : Token) → is_word w t ≡ true → is_sign s t ≡ false
word_no_sign w s (Name n) e = refl
word_no_sign w s (Literal n) e = absurd (cc)
word_no_sign w s (Digits n) e = absurd (cc)
word_no_sign w s (Parameter n) e = absurd (cc)
word_no_sign w s (Sign n) e = absurd (cc)

column_no_sign : (s : ℕ) (t : Token) (c : Text) → column_of t ≡ Some c → is_sign s t ≡ false
column_no_sign s (Name n) c e = refl
column_no_sign s (Literal n) c e = absurd (cc)
column_no_sign s (Digits n) c e = absurd (cc)
column_no_sign s (Parameter n) c e = absurd (cc)
column_no_sign s (Sign n) c e = absurd (cc)

closing_no_comma : (t : Token) → is_sign closing t ≡ true → is_sign comma t ≡ false
closing_no_comma (Name n) e = absurd (cc)
closing_no_comma (Literal n) e = absurd (cc)
closing_no_comma (Digits n) e = absurd (cc)
closing_no_comma (Parameter n) e = absurd (cc)
closing_no_comma (Sign n) e = rw (eqb-true n 41 e) refl

-- the first word decides the form
by_word : (x : Text) (w : Token) (ts : List Token) → is_word x w ≡ true → of_tokens (w ∷ ts) ≡ of_tokens (Name x ∷ ts)
unfolding of_tokens
by_word x (Name n) ts e = let same : folded n ≡ folded x = (bytes_eq-Decides (folded n) (folded x)).0 e in rw same refl
by_word x (Literal n) ts e = absurd (cc)
by_word x (Digits n) ts e = absurd (cc)
by_word x (Parameter n) ts e = absurd (cc)
by_word x (Sign n) ts e = absurd (cc)

-- lists
columns-read : {ts : List Token} {cs : List Text} (d : Columns ts cs) (e : Token) (us : List Token) → is_sign comma e ≡ false → items column_of (ts ++ e ∷ us) ≡ Some (cs, e ∷ us)
unfolding items with_item
columns-read (g.column names) e us other = rw (names, other) refl
columns-read (g.columns names marks rest) e us other = rw (names, marks, columns-read rest e us other) refl

definitions-read : {ts : List Token} {cs : List Text} (d : Definitions ts cs) (e : Token) (us : List Token) → is_sign comma e ≡ false → definitions (ts ++ e ∷ us) ≡ Some (cs, e ∷ us)
unfolding definitions with_item
definitions-read (g.definition names says) e us other = rw (says, names, other) refl
definitions-read (g.definitions names says marks rest) e us other = rw (says, names, marks, definitions-read rest e us other) refl

operands-read : {ts : List Token} {vs : List Operand} (d : Operands ts vs) (e : Token) (us : List Token) → is_sign comma e ≡ false → items operand_of (ts ++ e ∷ us) ≡ Some (vs, e ∷ us)
unfolding items with_item
operands-read (g.operand gives) e us other = rw (gives, other) refl
operands-read (g.operands gives marks rest) e us other = rw (gives, marks, operands-read rest e us other) refl

columns_is : (typed : Bool) (f : List Text → Form) (ts : List Token) (cs : List Text) (rest : List Token) → columns_at typed ts ≡ Some (cs, rest) → length cs ≤ 64 → take_columns typed f ts ≡ f cs rest
unfolding take_columns at_most_64 read
columns_is typed f ts cs rest e le = let fits : nat_le (length cs) 64 ≡ true = le-leb _ _ le in rw (e, fits) refl

operands_is : (f : List Operand → Form) (ts : List Token) (vs : List Operand) (rest : List Token) → items operand_of ts ≡ Some (vs, rest) → take_operands f ts ≡ f vs rest
unfolding take_operands read
operands_is f ts vs rest e = rw e refl

-- the forms
block-read : (r : Statement) {ts : List Token} (d : IsBlock ts) → block r ts ≡ Some r
unfolding block
block-read r g.bare = first_is _ _ [] r (end_is r)
block-read r (g.work {w} says) = second_is _ _ (w ∷ []) _ (no_end r w []) (pass_is _ _ w [] (left_holds _ _ says) ∙ end_is r)
block-read r (g.transaction {w} says) = second_is _ _ (w ∷ []) _ (no_end r w []) (pass_is _ _ w [] (right_holds _ _ says) ∙ end_is r)

assignment-read : (made : Text → Option Text → Statement) {ts : List Token} {n : Text} {v : Option Text} (d : Assignment ts n v) → assignment made ts ≡ Some (made n v)
unfolding assignment
assignment-read made (g.to {n} {a} {v} {name} {value} spells says sets) = value_is _ _ n _ name spells ∙ pass_is _ _ a _ (left_holds _ _ says) ∙ value_is _ _ v _ value sets ∙ end_is _
assignment-read made (g.equals {n} {a} {v} {name} {value} spells marks sets) = value_is _ _ n _ name spells ∙ pass_is _ _ a _ (right_holds _ _ marks) ∙ value_is _ _ v _ value sets ∙ end_is _

abbrev nothing : Option Statement
nothing = None

if_none : (b : Bool) → (if b then nothing else None) ≡ None
if_none true = refl
if_none false = refl

-- two tokens are no assignment
short_value : (o : Option Text) (b : Bool) → read (λ (n : Text). if b then nothing else None) o ≡ None
unfolding read
short_value None b = refl
short_value (Some n) b = if_none b

short : (made : Text → Option Text → Statement) (a v : Token) → assignment made (a ∷ v ∷ []) ≡ None
unfolding assignment take_value pass
short made a v = short_value (name_of a) (is_word (codes "to") v || is_sign equal v)

not_behind : (w : Text) (made : Text → Option Text → Statement) {ts : List Token} {n : Text} {v : Option Text} (d : Assignment ts n v) → pass (is_word w) (assignment made) ts ≡ None
unfolding pass
not_behind w made (g.to {n} {a} {v} spells says sets) = rw (short made a v) (if_none _)
not_behind w made (g.equals {n} {a} {v} spells marks sets) = rw (short made a v) (if_none _)

set_name-read : {ts : List Token} {n : Text} {v : Option Text} (d : Assignment ts n v) → set_name ts ≡ Some (Set n v)
unfolding set_name
set_name-read {ts} a = second_is _ _ ts _ (not_behind (codes "local") SetLocal a) (assignment-read Set a)

-- LOCAL isn't SESSION
local_no_session : (t : Token) → is_word (codes "local") t ≡ true → is_word (codes "session") t ≡ false
local_no_session (Name n) e = let same : folded n ≡ folded (codes "local") = (bytes_eq-Decides (folded n) (folded (codes "local"))).0 e in rw same refl
local_no_session (Literal n) e = absurd (cc)
local_no_session (Digits n) e = absurd (cc)
local_no_session (Parameter n) e = absurd (cc)
local_no_session (Sign n) e = absurd (cc)

set_local-read : (u : Token) {ts : List Token} {n : Text} {v : Option Text} → Says u (codes "local") → Assignment ts n v → set (u ∷ ts) ≡ Some (SetLocal n v)
unfolding set set_name
set_local-read u {ts} says a = second_is _ _ (u ∷ ts) _ (pass_no _ _ u ts (local_no_session u says)) (first_is _ _ (u ∷ ts) _ (pass_is _ _ u ts says ∙ assignment-read SetLocal a))

-- a SELECT without parameters, for a cursor
over-read : (c : Text) (o : Option Statement) (cs : List Text) (t : Text) (w : Option Equals) → o ≡ Some (Select cs t w) → parameters_of (Select cs t w) ≡ 0 → declared_over c o ≡ Some (Declare c cs t w)
over-read c o cs t w e none = ap (declared_over c) e ∙ ap (λ (n : ℕ). if n == 0 then Some (Declare c cs t w) else None) none

filter-read : (cs : List Text) (t : Text) {ts : List Token} {o : Option Equals} (d : Filter ts o) → end_of cs t ts ≡ Some (Select cs t o)
unfolding end_of where_of
filter-read cs t g.none = first_is _ _ [] _ (end_is _)
filter-read cs t (g.where_equals {w} {n} {e} {t = x} {c} {v} says names marks gives) =
    second_is _ _ (w ∷ n ∷ e ∷ x ∷ []) _ (no_end _ w _) (pass_is _ _ w _ says ∙ value_is _ _ n _ c names ∙ pass_is _ _ e _ marks ∙ value_is _ _ x _ v gives ∙ end_is _)

from-read : (cs : List Text) (f n : Token) (us : List Token) (t : Text) (o : Option Equals) → Says f (codes "from") → column_of n ≡ Some t → Filter us o → from_of cs (f ∷ n ∷ us) ≡ Some (Select cs t o)
unfolding from_of
from-read cs f n us t o says names filter = pass_is _ _ f _ says ∙ value_is _ _ n _ t names ∙ filter-read cs t filter

no_star : {ts : List Token} {cs : List Text} (d : Columns ts cs) (f : Form) (us : List Token) → pass (is_sign star) f (ts ++ us) ≡ None
no_star (g.column {n} {c} names) f us = pass_no _ f n us (column_no_sign star n c names)
no_star (g.columns {n} {s} {ts} {c} names marks rest) f us = pass_no _ f n _ (column_no_sign star n c names)

select-read : {ts : List Token} {cs : List Text} (d : Chosen ts cs) (f n : Token) (us : List Token) (t : Text) (o : Option Equals) → Says f (codes "from") → column_of n ≡ Some t → Filter us o
    → select (ts ++ f ∷ n ∷ us) ≡ Some (Select cs t o)
unfolding select columns_at
select-read (g.every {s} marks) f n us t o says names filter = first_is _ _ _ _ (pass_is _ _ s _ marks ∙ from-read [] f n us t o says names filter)
select-read (g.some {ts} {cs} list le) f n us t o says names filter =
    second_is _ _ (ts ++ f ∷ n ∷ us) _ (no_star list _ (f ∷ n ∷ us))
    (columns_is false from_of _ cs _ (columns-read list f (n ∷ us) (word_no_sign (codes "from") comma f says)) le ∙ from-read cs f n us t o says names filter)

temporary-read : {k : Token} (d : IsTemporary k) → (is_word (codes "temp") k || is_word (codes "temporary") k) ≡ true
temporary-read (g.temp says) = left_holds _ _ says
temporary-read (g.temporary says) = right_holds _ _ says

derived-read : {ts : List Token} {s : Statement} (d : Derives ts s) → of_tokens ts ≡ Some s
unfolding of_tokens set reset show discard create definition_list drop_table insert value_list columns_at rows_of declare fetch close
derived-read g.empty = refl
derived-read (g.begin {w} {ts} says b) = by_word (codes "begin") w ts says ∙ block-read Begin b
derived-read (g.commit {w} {ts} says b) = by_word (codes "commit") w ts says ∙ block-read Commit b
derived-read (g.rollback {w} {ts} says b) = by_word (codes "rollback") w ts says ∙ block-read Rollback b
derived-read (g.set {w} {ts} says a) = by_word (codes "set") w ts says ∙ second_is _ _ ts _ (not_behind (codes "session") Set a) (set_name-read a)
derived-read (g.set_session {w} {u} {ts} says session a) = by_word (codes "set") w (u ∷ ts) says ∙ first_is _ _ (u ∷ ts) _ (pass_is _ _ u ts session ∙ assignment-read Set a)
derived-read (g.set_local {w} {u} {ts} says local a) = by_word (codes "set") w (u ∷ ts) says ∙ set_local-read u local a
derived-read (g.reset_all {w} {a} says all) = by_word (codes "reset") w (a ∷ []) says ∙ first_is _ _ (a ∷ []) _ (pass_is _ _ a [] all ∙ end_is _)
derived-read (g.reset {w} {n} {name} says other spells) = by_word (codes "reset") w (n ∷ []) says ∙ second_is _ _ (n ∷ []) _ (pass_no _ _ n [] other) (value_is _ _ n [] name spells ∙ end_is _)
derived-read (g.show {w} {n} {name} says spells) = by_word (codes "show") w (n ∷ []) says ∙ value_is _ _ n [] name spells ∙ end_is _
derived-read (g.discard_all {w} {a} says all) = by_word (codes "discard") w (a ∷ []) says ∙ pass_is _ _ a [] all ∙ end_is _
derived-read (g.create {w} {k} {u} {n} {o} ts e {t} {cs} says kind table names opens list le close) =
    by_word (codes "create") w _ says ∙ pass_is _ _ k _ (temporary-read kind) ∙ pass_is _ _ u _ table ∙ value_is _ _ n _ t names ∙ pass_is _ _ o _ opens
    ∙ columns_is true _ _ cs _ (definitions-read list e [] (closing_no_comma e close)) le ∙ pass_is _ _ e [] close ∙ end_is _
derived-read (g.drop {w} {u} {n} {t} says table names) = by_word (codes "drop") w _ says ∙ pass_is _ _ u _ table ∙ value_is _ _ n _ t names ∙ end_is _
derived-read (g.insert {w} {i} {n} {u} {o} ts e {t} {vs} says into names vals opens list close) =
    by_word (codes "insert") w _ says ∙ pass_is _ _ i _ into ∙ value_is _ _ n _ t names ∙ pass_is _ _ u _ vals ∙ pass_is _ _ o _ opens
    ∙ operands_is _ _ vs _ (operands-read list e [] (closing_no_comma e close)) ∙ pass_is _ _ e [] close ∙ end_is _
derived-read (g.select {w} ts f n us {t} {cs} {filter} says chosen from names rest) = by_word (codes "select") w _ says ∙ select-read chosen f n us t filter from names rest
derived-read (g.declare {w} {n} {c} {v} {h} {f} {u} ts {cursor} {t} {cs} {filter} says names is_cursor is_with holds is_for selects d none) =
    by_word (codes "declare") w _ says ∙ value_is _ _ n _ cursor names ∙ pass_is _ _ c _ is_cursor ∙ pass_is _ _ v _ is_with ∙ pass_is _ _ h _ holds ∙ pass_is _ _ f _ is_for
    ∙ pass_is _ _ u ts selects ∙ over-read cursor (select ts) cs t filter (sym (by_word (codes "select") u ts selects) ∙ derived-read d) none
derived-read (g.fetch {w} {n} {f} {c} {count} {cursor} says counts from names) =
    by_word (codes "fetch") w _ says ∙ value_is _ _ n _ count counts ∙ pass_is _ _ f _ from ∙ value_is _ _ c [] cursor names ∙ end_is _
derived-read (g.close {w} {c} {cursor} says names) = by_word (codes "close") w _ says ∙ value_is _ _ c [] cursor names ∙ end_is _

pub derived-statement : DerivedIsStatement
unfolding statement phrase read less_semicolon
derived-statement t s ts e d = ap (λ o. read of_tokens (less_semicolon o)) e ∙ derived-read d

pub derives-one : DerivesOne
derives-one ts r s d e = let first = derived-read d in let second = derived-read e in let same : Some r ≡ Some s = sym first ∙ second in cc
