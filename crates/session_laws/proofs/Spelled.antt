-- What the machine's laws need of the statements that texts spell.
use Rattle.std.proofs.Common.{◌≡◌, ℕ, suc, ◌+◌, ◌<◌, ◌≤◌, List, [], ◌∷◌, length, map, Option, Some, None, refl, ap, Bool, true, false, cond, arith, leb-true}
use Rattle.std.specs.Prelude.{codes, nat_le, nat_lt, ◌==◌, if◌then◌else◌}
use Rattle.std.specs.List.{AllByRecursion}
use Rattle.std.specs.Char.{to_ascii_lowercase}
use Rattle.std.proofs.lemmas.Slice.Eq.{bytes_eq-Decides}
use Rattle.message_view.specs.Bodies.{HasNoZero}
use Rattle.mini_sql.specs.Words.{Text, folded, same_word}
use Rattle.mini_sql.specs.Statements as st
use Rattle.mini_sql.specs.Tokens.{Token, Name, Literal, Digits, Parameter, Sign, comma, tokens_after, literal_length, unquoted}
use Rattle.mini_sql.specs.Statements.{Statement, Operand, Null, statement, DiscardAll, Form, or_else, is_word, is_sign, name_of, column_of, setting_of, operand_of, count_of, operand_parameter, parameters_of, greatest, of_tokens, phrase, less_semicolon, read, ends, pass, take_value, either, with_item, items, definitions, columns_at, at_most_64, take_columns, take_operands, block, assignment, set_name, set, reset, show, discard, definition_list, create, drop_table, value_list, insert, where_of, end_of, from_of, select, declared_over, rows_of, declare, fetch, close, of_cursor, fails, of_other, of_word}
use Rattle.session_values.specs.Lawful.{IsShort}
use Rattle.session_values.proofs.Alls.{OfSome}
use Rattle.session_laws.specs.Statements.{IsSpelled}
use Rattle.session_laws.proofs.Lexed.{size, sizes, IsToken, AreTokens, token-size, AreWithin, phrase-told}

pub spells-discard_all : statement (codes "DISCARD ALL") ≡ Some DiscardAll
unfolding statement tokens_after literal_length unquoted of_tokens phrase less_semicolon read discard pass ends
spells-discard_all = refl

longer : (m n : ℕ) (x : Statement) → m ≤ n → IsSpelled m x → IsSpelled n x
longer m n st.Empty l h = tt
longer m n st.Begin l h = tt
longer m n st.Commit l h = tt
longer m n st.Rollback l h = tt
longer m n (st.Set k (Some v)) l h = (h.0, omega (arith, h.1))
longer m n (st.Set k None) l h = tt
longer m n (st.SetLocal k (Some v)) l h = (h.0, omega (arith, h.1))
longer m n (st.SetLocal k None) l h = tt
longer m n (st.Declare c cs t w) l h = h
longer m n (st.Fetch k c) l h = tt
longer m n (st.CloseCursor c) l h = tt
longer m n (st.Reset k) l h = tt
longer m n st.ResetAll l h = tt
longer m n (st.Show k) l h = tt
longer m n st.DiscardAll l h = tt
longer m n (st.Create t cs) l h = h
longer m n (st.Drop t) l h = tt
longer m n (st.Insert t vs) l h = h
longer m n (st.Select cs t w) l h = h

pub longer-some : (m n : ℕ) (o : Option Statement) → m ≤ n → OfSome (IsSpelled m) o → OfSome (IsSpelled n) o
longer-some m n None l h = tt
longer-some m n (Some x) l h = longer m n x l h

-- ---- forms

-- After tokens of so many bytes, the form reads statements as they are spelled.
abbrev Reads : ℕ → Form → Type 0
Reads k form = (ts : List Token) → AreTokens ts → OfSome (IsSpelled (k + sizes ts)) (form ts)

reads-more : (j k : ℕ) (form : Form) → j ≤ k → Reads j form → Reads k form
reads-more j k form l h ts z = longer-some (j + sizes ts) (k + sizes ts) (form ts) (omega arith) (h ts z)

choose-some : {A : Type 0} (P : A → Type 0) (b : Bool) (x y : Option A) → (b ≡ true → OfSome P x) → OfSome P y → OfSome P (if b then x else y)
choose-some P true x y h k = h refl
choose-some P false x y h k = k

ends-reads : (k : ℕ) (x : Statement) → IsSpelled k x → Reads k (ends x)
unfolding ends
ends-reads k x h [] z = longer k (k + 0) x (omega arith) h
ends-reads k x h (t ∷ ts) z = tt

pass-reads : (k : ℕ) (test : Token → Bool) (rest : Form) → Reads (k + 1) rest → Reads k (pass test rest)
unfolding pass
pass-reads k test rest h [] z = tt
pass-reads k test rest h (t ∷ ts) z =
    choose-some (IsSpelled (k + sizes (t ∷ ts))) (test t) (rest ts) None (λ e. longer-some (k + 1 + sizes ts) (k + sizes (t ∷ ts)) (rest ts) (omega (arith, token-size t z.0)) (h ts z.1)) tt

-- P of the bytes of a token and its value
value-reads : {A : Type 0} (P : ℕ → A → Type 0) (k : ℕ) (value_of : Token → Option A) (rest : A → Form) → ((t : Token) → IsToken t → OfSome (P (size t)) (value_of t)) → ((n : ℕ) (a : A) → P n a → Reads (k + n) (rest a))
    → Reads k (take_value value_of rest)
unfolding take_value read
value-reads P k value_of rest g h [] z = tt
value-reads P k value_of rest g h (t ∷ ts) z = by_value (value_of t) (g t z.0)
  where
    by_value : (o : Option _) → OfSome (P (size t)) o → OfSome (IsSpelled (k + sizes (t ∷ ts))) (read (λ a. rest a ts) o)
    by_value None p = tt
    by_value (Some a) p = longer-some (k + size t + sizes ts) (k + sizes (t ∷ ts)) (rest a ts) (omega arith) (h (size t) a p ts z.1)

either-reads : (k : ℕ) (f g : Form) → Reads k f → Reads k g → Reads k (either f g)
unfolding either
either-reads k f g h i ts z = first_or (f ts) (g ts) (h ts z) (i ts z)
  where
    first_or : (a b : Option Statement) → OfSome (IsSpelled (k + sizes ts)) a → OfSome (IsSpelled (k + sizes ts)) b → OfSome (IsSpelled (k + sizes ts)) (or_else a b)
    first_or None b p q = q
    first_or (Some x) b p q = p

-- ---- values of tokens

map-length : (f : ℕ → ℕ) (t : Text) → length (map f t) ≡ length t
map-length f [] = refl
map-length f (b ∷ t) = ap suc (map-length f t)

pub folded-length : (t : Text) → length (folded t) ≡ length t
folded-length t = map-length _ t

choose-plain : (c : Bool) (x y : ℕ) → 0 < x → 0 < y → 0 < cond c x y
choose-plain true x y h k = h
choose-plain false x y h k = k

fold-plain : (b : ℕ) → 0 < b → 0 < to_ascii_lowercase b
fold-plain b h = choose-plain (nat_lt b 65) b _ h (choose-plain (nat_lt b 91) (b + 32) b (omega arith) h)

folded-plain : (t : Text) → HasNoZero t → HasNoZero (folded t)
folded-plain [] h = tt
folded-plain (b ∷ t) h = (fold-plain b h.0, folded-plain t h.1)

-- a name of so many bytes
abbrev IsName : ℕ → Text → Type 0
IsName n t = 1 ≤ n

name-told : (t : Token) → IsToken t → OfSome (IsName (size t)) (name_of t)
name-told (Name n) h = h.1
name-told (Literal v) h = tt
name-told (Digits ds) h = tt
name-told (Parameter n) h = tt
name-told (Sign s) h = tt

abbrev IsColumn : ℕ → Text → Type 0
IsColumn n t = IsShort 63 t

column-told : (t : Token) → IsToken t → OfSome (IsColumn (size t)) (column_of t)
column-told (Name n) h = omega (arith, folded-length n, h.2)
column-told (Literal v) h = tt
column-told (Digits ds) h = tt
column-told (Parameter n) h = tt
column-told (Sign s) h = tt

abbrev IsGivenValue : ℕ → Option Text → Type 0
IsGivenValue n None = Unit {0}
IsGivenValue n (Some v) = HasNoZero v × length v ≤ n

default-told : (b : Bool) (n : ℕ) (t : Text) → IsGivenValue n (Some t) → IsGivenValue n (if b then None else Some t)
default-told true n t h = tt
default-told false n t h = h

setting-told : (t : Token) → IsToken t → OfSome (IsGivenValue (size t)) (setting_of t)
setting-told (Name n) h = default-told (same_word n (codes "default")) (length n) (folded n) (folded-plain n h.0, omega (arith, folded-length n))
setting-told (Literal v) h = (h, omega arith)
setting-told (Digits ds) h = (h.0, omega arith)
setting-told (Parameter n) h = tt
setting-told (Sign s) h = tt

abbrev IsOperand : ℕ → Operand → Type 0
IsOperand n o = operand_parameter o ≤ 99

operand-told : (t : Token) → IsToken t → OfSome (IsOperand (size t)) (operand_of t)
operand-told (Name n) h = choose-some (IsOperand (length n)) (same_word n (codes "null")) (Some Null) None (λ e. omega arith) tt
operand-told (Literal v) h = omega arith
operand-told (Digits ds) h = tt
operand-told (Parameter n) h = h
operand-told (Sign s) h = tt

-- ---- lists of items

-- items that P holds of, and tokens of no more bytes after them
abbrev Listed : {A : Type 0} → (A → Type 0) → ℕ → List A × List Token → Type 0
Listed P n p = AllByRecursion P p.0 × AreWithin n p.1

listed-more : {A : Type 0} (P : A → Type 0) (m n : ℕ) (o : Option (List A × List Token)) → m ≤ n → OfSome (Listed P m) o → OfSome (Listed P n) o
listed-more P m n None l h = tt
listed-more P m n (Some p) l h = (h.0, (h.1.0, omega (arith, h.1.1)))

with_item-told : {A : Type 0} (P : A → Type 0) (n : ℕ) (o : Option A) (q : Option (List A × List Token)) → OfSome P o → OfSome (Listed P n) q → OfSome (Listed P n) (with_item o q)
unfolding with_item
with_item-told P n (Some a) (Some p) h k = ((h, k.0), k.1)
with_item-told P n (Some a) None h k = tt
with_item-told P n None (Some p) h k = tt
with_item-told P n None None h k = tt

items-told : {A : Type 0} (P : A → Type 0) (item_of : Token → Option A) → ((t : Token) → IsToken t → OfSome P (item_of t)) → (ts : List Token) → AreTokens ts → OfSome (Listed P (sizes ts)) (items item_of ts)
unfolding items
items-told P item_of g [] z = tt
items-told P item_of g (t ∷ []) z = with_item-told P (sizes (t ∷ [])) (item_of t) (Some ([], [])) (g t z.0) (tt, (tt, omega arith))
items-told P item_of g (t ∷ s ∷ ts) z =
    with_item-told P (sizes (t ∷ s ∷ ts)) (item_of t) _ (g t z.0)
    (choose-some (Listed P (sizes (t ∷ s ∷ ts))) (is_sign comma s) _ _ (λ e. listed-more P (sizes ts) (sizes (t ∷ s ∷ ts)) (items item_of ts) (omega arith) (items-told P item_of g ts z.1.1)) (tt, (z.1, omega arith)))

definitions-told : (ts : List Token) → AreTokens ts → OfSome (Listed (IsShort 63) (sizes ts)) (definitions ts)
unfolding definitions
definitions-told [] z = tt
definitions-told (t ∷ []) z = tt
definitions-told (t ∷ k ∷ []) z =
    choose-some (Listed (IsShort 63) (sizes (t ∷ k ∷ []))) (is_word (codes "text") k) _ _ (λ e. with_item-told (IsShort 63) (sizes (t ∷ k ∷ [])) (column_of t) (Some ([], [])) (column-told t z.0) (tt, (tt, omega arith))) tt
definitions-told (t ∷ k ∷ s ∷ ts) z =
    choose-some (Listed (IsShort 63) (sizes (t ∷ k ∷ s ∷ ts))) (is_word (codes "text") k) _ _ (λ e.
    with_item-told (IsShort 63) (sizes (t ∷ k ∷ s ∷ ts)) (column_of t) _ (column-told t z.0)
    (choose-some (Listed (IsShort 63) (sizes (t ∷ k ∷ s ∷ ts))) (is_sign comma s) _ _ (λ f. listed-more (IsShort 63) (sizes ts) (sizes (t ∷ k ∷ s ∷ ts)) (definitions ts) (omega arith) (definitions-told ts z.1.1.1)) (tt, (z.1.1, omega arith)))) tt

columns-told : (typed : Bool) (ts : List Token) → AreTokens ts → OfSome (Listed (IsShort 63) (sizes ts)) (columns_at typed ts)
unfolding columns_at
columns-told true ts z = definitions-told ts z
columns-told false ts z = items-told (IsShort 63) column_of column-told ts z

columns-reads : (k : ℕ) (typed : Bool) (rest : List Text → Form) → ((cs : List Text) → length cs ≤ 64 → AllByRecursion (IsShort 63) cs → Reads 0 (rest cs)) → Reads k (take_columns typed rest)
unfolding take_columns at_most_64 read
columns-reads k typed rest g ts z = by_columns (columns_at typed ts) (columns-told typed ts z)
  where
    by_length : (p : List Text × List Token) (b : Bool) → (b ≡ true → length p.0 ≤ 64) → Listed (IsShort 63) (sizes ts) p → OfSome (IsSpelled (k + sizes ts)) (read (λ q. rest q.0 q.1) (if b then Some p else None))
    by_length p true l h = longer-some (0 + sizes p.1) (k + sizes ts) (rest p.0 p.1) (omega (arith, h.1.1)) (g p.0 (l refl) h.0 p.1 h.1.0)
    by_length p false l h = tt

    by_columns : (o : Option (List Text × List Token)) → OfSome (Listed (IsShort 63) (sizes ts)) o → OfSome (IsSpelled (k + sizes ts)) (read (λ p. rest p.0 p.1) (at_most_64 o))
    by_columns None h = tt
    by_columns (Some p) h = by_length p (nat_le (length p.0) 64) (λ e. leb-true (length p.0) 64 e) h

abbrev IsFew : Operand → Type 0
IsFew o = operand_parameter o ≤ 99

few-greatest : (vs : List Operand) → AllByRecursion IsFew vs → greatest vs ≤ 99
few-greatest [] h = omega arith
few-greatest (v ∷ vs) h = let ih = few-greatest vs h.1 in omega (arith, h.0)

operands-reads : (k : ℕ) (rest : List Operand → Form) → ((vs : List Operand) → greatest vs ≤ 99 → Reads 0 (rest vs)) → Reads k (take_operands rest)
unfolding take_operands read
operands-reads k rest g ts z = by_items (items operand_of ts) (items-told IsFew operand_of operand-told ts z)
  where
    by_items : (o : Option (List Operand × List Token)) → OfSome (Listed IsFew (sizes ts)) o → OfSome (IsSpelled (k + sizes ts)) (read (λ p. rest p.0 p.1) o)
    by_items None h = tt
    by_items (Some p) h = longer-some (0 + sizes p.1) (k + sizes ts) (rest p.0 p.1) (omega (arith, h.1.1)) (g p.0 (few-greatest p.0 h.0) p.1 h.1.0)

-- ---- the forms of statements

block-reads : (k : ℕ) (x : Statement) → IsSpelled k x → IsSpelled (k + 1) x → Reads k (block x)
unfolding block
block-reads k x h g = either-reads k (ends x) _ (ends-reads k x h) (pass-reads k _ (ends x) (ends-reads (k + 1) x g))

set-spelled : (k n m : ℕ) (name : Text) (v : Option Text) → 3 ≤ k → 1 ≤ n → IsGivenValue m v → IsSpelled (k + n + 1 + m) (st.Set name v)
set-spelled k n m name None l i h = tt
set-spelled k n m name (Some v) l i h = (h.0, omega (arith, h.1))

set_local-spelled : (k n m : ℕ) (name : Text) (v : Option Text) → 3 ≤ k → 1 ≤ n → IsGivenValue m v → IsSpelled (k + n + 1 + m) (st.SetLocal name v)
set_local-spelled k n m name None l i h = tt
set_local-spelled k n m name (Some v) l i h = (h.0, omega (arith, h.1))

assignment-reads : (k : ℕ) (made : Text → Option Text → Statement) → ((n m : ℕ) (name : Text) (v : Option Text) → 1 ≤ n → IsGivenValue m v → IsSpelled (k + n + 1 + m) (made name v)) → Reads k (assignment made)
unfolding assignment
assignment-reads k made g =
    value-reads IsName k name_of _ name-told (λ n name i.
    pass-reads (k + n) _ _ (
    value-reads IsGivenValue (k + n + 1) setting_of _ setting-told (λ m v h.
    ends-reads (k + n + 1 + m) (made name v) (g n m name v i h))))

set_name-reads : (k : ℕ) → 3 ≤ k → Reads k set_name
unfolding set_name
set_name-reads k l =
    either-reads k _ _ (pass-reads k _ _ (assignment-reads (k + 1) st.SetLocal (λ n m name v i h. set_local-spelled (k + 1) n m name v (omega arith) i h)))
    (assignment-reads k st.Set (λ n m name v i h. set-spelled k n m name v l i h))

set-reads : (k : ℕ) → 3 ≤ k → Reads k set
unfolding set
set-reads k l = either-reads k _ _ (pass-reads k _ _ (assignment-reads (k + 1) st.Set (λ n m name v i h. set-spelled (k + 1) n m name v (omega arith) i h))) (set_name-reads k l)

reset-reads : (k : ℕ) → Reads k reset
unfolding reset
reset-reads k = either-reads k _ _ (pass-reads k _ _ (ends-reads (k + 1) st.ResetAll tt)) (value-reads IsName k name_of _ name-told (λ n name i. ends-reads (k + n) (st.Reset name) tt))

show-reads : (k : ℕ) → Reads k show
unfolding show
show-reads k = value-reads IsName k name_of _ name-told (λ n name i. ends-reads (k + n) (st.Show name) tt)

discard-reads : (k : ℕ) → Reads k discard
unfolding discard
discard-reads k = pass-reads k _ _ (ends-reads (k + 1) st.DiscardAll tt)

create-reads : (k : ℕ) → Reads k create
unfolding create definition_list
create-reads k =
    pass-reads k _ _ (pass-reads (k + 1) _ _ (value-reads IsColumn (k + 1 + 1) column_of _ column-told (λ n t i.
    pass-reads (k + 1 + 1 + n) _ _ (columns-reads (k + 1 + 1 + n + 1) true _ (λ cs l h. pass-reads 0 _ _ (ends-reads (0 + 1) (st.Create t cs) (l, h)))))))

drop-reads : (k : ℕ) → Reads k drop_table
unfolding drop_table
drop-reads k = pass-reads k _ _ (value-reads IsColumn (k + 1) column_of _ column-told (λ n t i. ends-reads (k + 1 + n) (st.Drop t) tt))

insert-reads : (k : ℕ) → Reads k insert
unfolding insert value_list
insert-reads k =
    pass-reads k _ _ (value-reads IsColumn (k + 1) column_of _ column-told (λ n t i.
    pass-reads (k + 1 + n) _ _ (pass-reads (k + 1 + n + 1) _ _ (operands-reads (k + 1 + n + 1 + 1) _ (λ vs h. pass-reads 0 _ _ (ends-reads (0 + 1) (st.Insert t vs) h))))))

from-reads : (k : ℕ) (cs : List Text) → length cs ≤ 64 → AllByRecursion (IsShort 63) cs → Reads k (from_of cs)
unfolding from_of where_of end_of
from-reads k cs l h =
    pass-reads k _ _ (value-reads IsColumn (k + 1) column_of _ column-told (λ n t i.
    either-reads (k + 1 + n) _ _ (ends-reads (k + 1 + n) (st.Select cs t None) (l, h, omega arith))
    (pass-reads (k + 1 + n) _ _ (value-reads IsColumn (k + 1 + n + 1) column_of _ column-told (λ m c j.
    pass-reads (k + 1 + n + 1 + m) _ _ (value-reads IsOperand (k + 1 + n + 1 + m + 1) operand_of _ operand-told (λ o v f.
    ends-reads (k + 1 + n + 1 + m + 1 + o) (st.Select cs t (Some (record { column = c; to = v }))) (l, h, f))))))))

select-reads : (k : ℕ) → Reads k select
unfolding select
select-reads k = either-reads k _ _ (pass-reads k _ _ (from-reads (k + 1) [] (omega arith) tt)) (columns-reads k false from_of (λ cs l h. from-reads 0 cs l h))

-- what a cursor is declared over
over-spelled : (k : ℕ) (c : Text) (o : Option Statement) → OfSome (IsSpelled k) o → OfSome (IsSpelled k) (declared_over c o)
over-spelled k c None h = tt
over-spelled k c (Some (st.Select cs t w)) h = choose-some (IsSpelled k) (parameters_of (st.Select cs t w) == 0) (Some (st.Declare c cs t w)) None (λ e. (h.0, h.1)) tt
over-spelled k c (Some st.Empty) h = tt
over-spelled k c (Some st.Begin) h = tt
over-spelled k c (Some st.Commit) h = tt
over-spelled k c (Some st.Rollback) h = tt
over-spelled k c (Some (st.Set m v)) h = tt
over-spelled k c (Some (st.SetLocal m v)) h = tt
over-spelled k c (Some (st.Reset m)) h = tt
over-spelled k c (Some st.ResetAll) h = tt
over-spelled k c (Some (st.Show m)) h = tt
over-spelled k c (Some st.DiscardAll) h = tt
over-spelled k c (Some (st.Create t cs)) h = tt
over-spelled k c (Some (st.Drop t)) h = tt
over-spelled k c (Some (st.Insert t vs)) h = tt
over-spelled k c (Some (st.Declare d cs t w)) h = tt
over-spelled k c (Some (st.Fetch m d)) h = tt
over-spelled k c (Some (st.CloseCursor d)) h = tt

rows-reads : (k : ℕ) (c : Text) → Reads k (rows_of c)
unfolding rows_of
rows-reads k c = pass-reads k _ _ (λ ts z. over-spelled (k + 1 + sizes ts) c (select ts) (select-reads (k + 1) ts z))

declare-reads : (k : ℕ) → Reads k declare
unfolding declare
declare-reads k =
    value-reads IsColumn k column_of _ column-told (λ n c i.
    pass-reads (k + n) _ _ (pass-reads (k + n + 1) _ _ (pass-reads (k + n + 1 + 1) _ _ (pass-reads (k + n + 1 + 1 + 1) _ _ (rows-reads (k + n + 1 + 1 + 1 + 1) c)))))

-- a count can be any
abbrev IsCount : ℕ → Option ℕ → Type 0
IsCount n c = Unit {0}

some-any : (o : Option (Option ℕ)) (n : ℕ) → OfSome (IsCount n) o
some-any None n = tt
some-any (Some c) n = tt

fetch-reads : (k : ℕ) → Reads k fetch
unfolding fetch
fetch-reads k =
    value-reads IsCount k count_of _ (λ t i. some-any (count_of t) (size t)) (λ n c i.
    pass-reads (k + n) _ _ (value-reads IsColumn (k + n + 1) column_of _ column-told (λ m d j. ends-reads (k + n + 1 + m) (st.Fetch c d) tt)))

close-reads : (k : ℕ) → Reads k close
unfolding close
close-reads k = value-reads IsColumn k column_of _ column-told (λ n c i. ends-reads (k + n) (st.CloseCursor c) tt)

-- the word SET has three bytes
set-size : (t : Token) → is_word (codes "set") t ≡ true → 3 ≤ size t
set-size (Name n) h =
    let e : folded n ≡ folded (codes "set") = (bytes_eq-Decides (folded n) (folded (codes "set"))).0 h in
    omega (arith, folded-length n, ap (length {A = ℕ}) e)
set-size (Literal v) h = absurd cc
set-size (Digits ds) h = absurd cc
set-size (Parameter n) h = absurd cc
set-size (Sign s) h = absurd cc

choose-form : (k : ℕ) (b : Bool) (f g : Form) → (b ≡ true → Reads k f) → Reads k g → Reads k (if b then f else g)
choose-form k true f g h i = h refl
choose-form k false f g h i = i

fails-reads : (k : ℕ) → Reads k fails
fails-reads k ts z = tt

cursor-reads : (k : ℕ) (t : Token) → Reads k (of_cursor t)
cursor-reads k t =
    choose-form k (is_word (codes "declare") t) _ _ (λ e. declare-reads k) (
    choose-form k (is_word (codes "fetch") t) _ _ (λ e. fetch-reads k) (
    choose-form k (is_word (codes "close") t) _ _ (λ e. close-reads k) (
    fails-reads k)))

other-reads : (k : ℕ) (t : Token) → Reads k (of_other t)
other-reads k t =
    choose-form k (is_word (codes "discard") t) _ _ (λ e. discard-reads k) (
    choose-form k (is_word (codes "create") t) _ _ (λ e. create-reads k) (
    choose-form k (is_word (codes "drop") t) _ _ (λ e. drop-reads k) (
    choose-form k (is_word (codes "insert") t) _ _ (λ e. insert-reads k) (
    choose-form k (is_word (codes "select") t) _ _ (λ e. select-reads k) (
    cursor-reads k t)))))

word-reads : (k : ℕ) (t : Token) → (is_word (codes "set") t ≡ true → 3 ≤ k) → Reads k (of_word t)
word-reads k t l =
    choose-form k (is_word (codes "begin") t) _ _ (λ e. block-reads k st.Begin tt tt) (
    choose-form k (is_word (codes "commit") t) _ _ (λ e. block-reads k st.Commit tt tt) (
    choose-form k (is_word (codes "rollback") t) _ _ (λ e. block-reads k st.Rollback tt tt) (
    choose-form k (is_word (codes "set") t) _ _ (λ e. set-reads k (l e)) (
    choose-form k (is_word (codes "reset") t) _ _ (λ e. reset-reads k) (
    choose-form k (is_word (codes "show") t) _ _ (λ e. show-reads k) (
    other-reads k t))))))

of_tokens-reads : (ts : List Token) → AreTokens ts → OfSome (IsSpelled (sizes ts)) (of_tokens ts)
unfolding of_tokens
of_tokens-reads [] z = tt
of_tokens-reads (t ∷ ts) z = word-reads (size t) t (set-size t) ts z.1

pub spelled : (t : Text) → HasNoZero t → OfSome (IsSpelled (length t)) (statement t)
unfolding statement read
spelled t h = by_phrase (phrase t) (phrase-told t h)
  where
    by_phrase : (o : Option (List Token)) → OfSome (AreWithin (length t)) o → OfSome (IsSpelled (length t)) (read of_tokens o)
    by_phrase None k = tt
    by_phrase (Some ts) k = longer-some (sizes ts) (length t) (of_tokens ts) k.1 (of_tokens-reads ts k.0)

pub few-parameters : (n : ℕ) (x : Statement) → IsSpelled n x → parameters_of x ≤ 99
few-parameters n st.Empty h = omega arith
few-parameters n st.Begin h = omega arith
few-parameters n st.Commit h = omega arith
few-parameters n st.Rollback h = omega arith
few-parameters n (st.Set m v) h = omega arith
few-parameters n (st.SetLocal m v) h = omega arith
few-parameters n (st.Declare c cs t w) h = omega arith
few-parameters n (st.Fetch m c) h = omega arith
few-parameters n (st.CloseCursor c) h = omega arith
few-parameters n (st.Reset m) h = omega arith
few-parameters n st.ResetAll h = omega arith
few-parameters n (st.Show m) h = omega arith
few-parameters n st.DiscardAll h = omega arith
few-parameters n (st.Create t cs) h = omega arith
few-parameters n (st.Drop t) h = omega arith
few-parameters n (st.Insert t vs) h = h
few-parameters n (st.Select cs t w) h = h.2
