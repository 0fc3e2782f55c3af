-- Forms of statements, read token by token.
use Rattle.std.proofs.Common.{◌≡◌, ℕ, List, [], ◌∷◌, length, Option, Some, None, Result, Ok, Err, refl, sym, ap, ◌∙◌, Bool, true, false, eq-eqb, subst}
use Rattle.std.specs.Prelude.{if◌then◌else◌, nat_le, IsErr, is_some}
use Rattle.std.specs.Borrow.{Bor}
use Rattle.mini_sql.specs.declared.SqlError.{SqlError}
use Rattle.mini_sql.specs.declared.stmt.Stmt.{Stmt}
use Rattle.mini_sql.specs.declared.stmt.Filter.{Filter}
use Rattle.mini_sql.specs.Words.{Text}
use Rattle.mini_sql.specs.Tokens.{Token, Sign, after_token}
use Rattle.mini_sql.specs.Statements.{Form, Statement, Operand, read, ends, pass, take_value, either, or_else, items, columns_at, at_most_64, take_columns, take_operands, operand_of, is_sign, end_of, from_of, fails, of_tokens, of_word, Empty, select, declared_over}
use Rattle.mini_sql.specs.Reading.{is_end, passed, taken, with_value, with_tokens}
use Rattle.mini_sql.specs.Lists.{Listing, items_of, rest_of}
use Rattle.mini_sql.specs.Meanings.{Reads, IsFilter, IsSource}

-- an answer that is a fault
pub reads-err : (r : Result Stmt SqlError) (o : Option Statement) → IsErr r → o ≡ None → Reads r o
reads-err (Ok x) o e n = absurd (cc)
reads-err (Err x) o e n = n

pub filter-err : (r : Result (Option Filter) SqlError) (o : Option (List Token)) → IsErr r → ((cs : List Text) (t : Text) → read (end_of cs t) o ≡ None) → IsFilter r o
filter-err (Ok x) o e n = absurd (cc)
filter-err (Err x) o e n = n

pub source-err : (r : Result (Bor Text × Option Filter) SqlError) (o : Option (List Token)) → IsErr r → ((cs : List Text) → read (from_of cs) o ≡ None) → IsSource r o
source-err (Ok x) o e n = absurd (cc)
source-err (Err x) o e n = n

pub reads-to : (r : Result Stmt SqlError) (o p : Option Statement) → o ≡ p → Reads r p → Reads r o
reads-to r o p e h = subst (Reads r) (sym e) h

-- one step of a form
branch : (f : Form) (b : Bool) (ts : List Token) → (if b then f ts else None) ≡ read f (if b then Some ts else None)
unfolding read
branch f true ts = refl
branch f false ts = refl

pub pass-to : (test : Token → Bool) (f : Form) (o rest : Option (List Token)) → passed test o ≡ rest → read (pass test f) o ≡ read f rest
unfolding pass read passed
pass-to test f None rest e = ap (read f) e
pass-to test f (Some []) rest e = ap (read f) e
pass-to test f (Some (t ∷ ts)) rest e = branch f (test t) ts ∙ ap (read f) e

pub pass-no : (test : Token → Bool) (f : Form) (o : Option (List Token)) → passed test o ≡ None → read (pass test f) o ≡ None
unfolding read
pass-no test f o e = pass-to test f o None e

pub sign-to : (s : ℕ) (f : Form) (o rest : Option (List Token)) → o ≡ after_token (Sign s) rest → read (pass (is_sign s) f) o ≡ read f rest
unfolding pass read
sign-to s f o None e = ap (read (pass (is_sign s) f)) e
sign-to s f o (Some ts) e = ap (read (pass (is_sign s) f)) e ∙ (rw (eq-eqb s s refl) refl)

no_value : {A : Type 0} (f : A → Form) (v : Option A) (ts : List Token) → with_tokens v ts ≡ None → read (λ a. f a ts) v ≡ None
unfolding read
no_value f None ts n = refl
no_value f (Some a) ts n = absurd (cc)

part_0 : {A B : Type 0} → A → Option (A × B) → A
part_0 a None = a
part_0 a (Some p) = p.0

part_1 : {A B : Type 0} → B → Option (A × B) → B
part_1 b None = b
part_1 b (Some p) = p.1

a_value : {A : Type 0} (f : A → Form) (a : A) (v : Option A) (ts : List Token) (rest : Option (List Token)) → with_tokens v ts ≡ with_value a rest → read (λ x. f x ts) v ≡ read (f a) rest
unfolding read part_0 part_1
a_value f a None ts None e = refl
a_value f a None ts (Some us) e = absurd (cc)
a_value f a (Some b) ts None e = absurd (cc)
a_value f a (Some b) ts (Some us) e = let value : b ≡ a = ap (part_0 b) e in let rest : ts ≡ us = ap (part_1 ts) e in rw (value, rest) refl

pub value-to : {A : Type 0} (value_of : Token → Option A) (f : A → Form) (a : A) (o rest : Option (List Token)) → taken value_of o ≡ with_value a rest → read (take_value value_of f) o ≡ read (f a) rest
unfolding take_value read taken
value-to value_of f a None None e = refl
value-to value_of f a None (Some us) e = absurd (cc)
value-to value_of f a (Some []) None e = refl
value-to value_of f a (Some []) (Some us) e = absurd (cc)
value-to value_of f a (Some (t ∷ ts)) rest e = a_value f a (value_of t) ts rest e

pub value-no : {A : Type 0} (value_of : Token → Option A) (f : A → Form) (o : Option (List Token)) → taken value_of o ≡ None → read (take_value value_of f) o ≡ None
unfolding take_value read taken
value-no value_of f None e = refl
value-no value_of f (Some []) e = refl
value-no value_of f (Some (t ∷ ts)) e = no_value f (value_of t) ts e

pub over-to : (c : Text) (o : Option (List Token)) (r : Option Statement) → read select o ≡ r → read (λ ts. declared_over c (select ts)) o ≡ declared_over c r
unfolding read
over-to c None r e = ap (declared_over c) e
over-to c (Some ts) r e = ap (declared_over c) e

pub end-to : (s : Statement) (o : Option (List Token)) → is_end o ≡ true → read (ends s) o ≡ Some s
unfolding ends read
end-to s None e = absurd (cc)
end-to s (Some []) e = refl
end-to s (Some (t ∷ ts)) e = absurd (cc)

pub end-no : (s : Statement) (o : Option (List Token)) → is_end o ≡ false → read (ends s) o ≡ None
unfolding ends read
end-no s None e = refl
end-no s (Some []) e = absurd (cc)
end-no s (Some (t ∷ ts)) e = refl

either-is : (f g : Form) (o : Option (List Token)) → read (either f g) o ≡ or_else (read f o) (read g o)
unfolding either read
either-is f g None = refl
either-is f g (Some ts) = refl

pub either-first : (f g : Form) (o : Option (List Token)) (s : Statement) → read f o ≡ Some s → read (either f g) o ≡ Some s
either-first f g o s e = either-is f g o ∙ ap (λ r. or_else r (read g o)) e

pub either-second : (f g : Form) (o : Option (List Token)) → read f o ≡ None → read (either f g) o ≡ read g o
either-second f g o e = either-is f g o ∙ ap (λ r. or_else r (read g o)) e

-- lists
within : (f : List Text → Form) (p : List Text × List Token) (b : Bool) (rest : Option (List Token)) → rest_of (if b then Some p else None) ≡ rest
    → read (λ q. f q.0 q.1) (if b then Some p else None) ≡ read (f p.0) rest
unfolding read
within f p true rest e = ap (read (f p.0)) e
within f p false rest e = ap (read (f p.0)) e

unlimited : (f : List Operand → Form) (x : Listing Operand) (rest : Option (List Token)) → rest_of x ≡ rest → read (λ p. f p.0 p.1) x ≡ read (f (items_of x)) rest
unfolding read
unlimited f None rest e = ap (read (f [])) e
unlimited f (Some p) rest e = ap (read (f p.0)) e

limited : (f : List Text → Form) (x : Listing Text) (rest : Option (List Token)) → rest_of (at_most_64 x) ≡ rest → read (λ p. f p.0 p.1) (at_most_64 x) ≡ read (f (items_of x)) rest
unfolding at_most_64 read
limited f None rest e = ap (read (f [])) e
limited f (Some p) rest e = within f p (nat_le (length p.0) 64) rest e

pub columns-to : (typed : Bool) (f : List Text → Form) (o rest : Option (List Token)) → rest_of (at_most_64 (read (columns_at typed) o)) ≡ rest
    → read (take_columns typed f) o ≡ read (f (items_of (read (columns_at typed) o))) rest
unfolding take_columns read at_most_64
columns-to typed f None rest e = ap (read (f [])) e
columns-to typed f (Some ts) rest e = limited f (columns_at typed ts) rest e

pub columns-no : (typed : Bool) (f : List Text → Form) (o : Option (List Token)) → rest_of (at_most_64 (read (columns_at typed) o)) ≡ None → read (take_columns typed f) o ≡ None
unfolding read
columns-no typed f o e = columns-to typed f o None e

pub operands-to : (f : List Operand → Form) (o rest : Option (List Token)) → rest_of (read (items operand_of) o) ≡ rest → read (take_operands f) o ≡ read (f (items_of (read (items operand_of) o))) rest
unfolding take_operands read
operands-to f None rest e = ap (read (f [])) e
operands-to f (Some ts) rest e = unlimited f (items operand_of ts) rest e

pub operands-no : (f : List Operand → Form) (o : Option (List Token)) → rest_of (read (items operand_of) o) ≡ None → read (take_operands f) o ≡ None
unfolding read
operands-no f o e = operands-to f o None e

pub after-some : (t : Token) (o rest : Option (List Token)) → o ≡ after_token t rest → is_end rest ≡ true → is_some o ≡ true
after-some t o None e h = absurd (cc)
after-some t o (Some ts) e h = ap is_some e

pub read-some : {A B : Type 0} (f : A → Option B) (o : Option A) (s : B) → read f o ≡ Some s → is_some o ≡ true
unfolding read
read-some f None s e = absurd (cc)
read-some f (Some a) s e = refl

pub rest-some : {A : Type 0} (x : Listing A) (o : Option (List Token)) → rest_of x ≡ o → is_some o ≡ true → is_some x ≡ true
rest-some None o e s = ap is_some e ∙ s
rest-some (Some p) o e s = refl

pub limited-some : (x : Listing Text) → is_some (at_most_64 x) ≡ true → is_some x ≡ true
unfolding at_most_64
limited-some None s = s
limited-some (Some p) s = refl

pub read-fails : (o : Option (List Token)) → read fails o ≡ None
unfolding read
read-fails None = refl
read-fails (Some ts) = refl

pub by-first : (t : Token) (o rest : Option (List Token)) → o ≡ after_token t rest → read of_tokens o ≡ read (of_word t) rest
unfolding read of_tokens
by-first t o None e = ap (read of_tokens) e
by-first t o (Some ts) e = ap (read of_tokens) e

pub by-none : (o : Option (List Token)) → o ≡ Some [] → read of_tokens o ≡ Some Empty
unfolding read of_tokens
by-none o e = ap (read of_tokens) e

pub by-fault : (o : Option (List Token)) → o ≡ None → read of_tokens o ≡ None
unfolding read
by-fault o e = ap (read of_tokens) e
