-- Where a literal ends.
use Rattle.std.proofs.Common.{◌≡◌, ◌≢◌, ℕ, zero, suc, ◌+◌, ◌-◌, ◌<◌, ◌≤◌, [], ◌∷◌, length, get_or, take, drop, Option, Some, None, refl, sym, ap, ◌∙◌, arith, Bool, true, false, eqb, eq-eqb, length-drop, add_assoc}
use Rattle.std.proofs.lemmas.Bool.{ne_eqb}
use Rattle.memchr.specs.Find.{Nowhere, NoneBefore, Passes, is_byte2}
use Rattle.std.proofs.lemmas.List.{take_all, get_or-drop}
use Rattle.std.proofs.lemmas.Bool.Decides.{nat_tests}
use Rattle.std.proofs.Common.{subst}
use Rattle.mini_sql.specs.Words.{Text}
use Rattle.std.specs.Prelude.{if◌then◌else◌}
use Rattle.mini_sql.specs.Tokens.{literal_length, further, unquoted}

-- a byte that may stand alone in a literal
abbrev pub is_stop : ℕ → Bool
is_stop b = is_byte2 39 0 b

no_quote : (b : ℕ) → (is_stop b ≡ true → ⊥) → eqb b 39 ≡ false
no_quote b h = ne_eqb b 39 (λ e. h (rw (eq-eqb b 39 e) refl))

no_zero : (b : ℕ) → (is_stop b ≡ true → ⊥) → eqb b 0 ≡ false
no_zero b h = ne_eqb b 0 (λ e. h (rw (no_quote b h, eq-eqb b 0 e) refl))

one-plain : (b : ℕ) (rest : Text) → (is_stop b ≡ true → ⊥) → literal_length (b ∷ rest) ≡ further 1 (literal_length rest)
unfolding literal_length
one-plain b [] h = rw (no_quote b h) refl
one-plain b (c ∷ rest) h = rw (no_quote b h, no_zero b h) refl

pub further-further : (a b : ℕ) (o : Option ℕ) → further a (further b o) ≡ further (a + b) o
further-further a b None = refl
further-further a b (Some m) = ap Some (sym (add_assoc a b m))

further-zero : (o : Option ℕ) → o ≡ further 0 o
further-zero None = refl
further-zero (Some m) = ap Some (omega arith)

pub plain : (xs : Text) (k : ℕ) → k ≤ length xs → Nowhere (Passes is_stop xs) 0 k → literal_length xs ≡ further k (literal_length (drop k xs))
unfolding literal_length
plain xs zero le before = further-zero (literal_length xs)
plain [] (suc k) le before = absurd (omega arith)
plain (b ∷ xs) (suc k) le before =
    let rest = plain xs k (omega arith) (λ j l h. before (suc j) (omega arith) (omega arith)) in
    let first = one-plain b xs (before 0 (omega arith) (omega arith)) in
    let sums : further 1 (further k (literal_length (drop k xs))) ≡ further (1 + k) (literal_length (drop k xs)) = further-further 1 k _ in
    first ∙ ap (further 1) rest ∙ sums ∙ ap (λ n. further n (literal_length (drop k xs))) (omega arith)

pub never-ends : (xs : Text) → Nowhere (Passes is_stop xs) 0 (length xs) → literal_length xs ≡ None
unfolding literal_length
never-ends [] before = refl
never-ends (b ∷ xs) before =
    one-plain b xs (before 0 (omega arith) (omega arith)) ∙ ap (further 1) (never-ends xs (λ j l h. before (suc j) (omega arith) (omega arith)))

pub at-zero : (xs : Text) → 0 < length xs → get_or xs 0 0 ≡ 0 → literal_length xs ≡ None
unfolding literal_length
at-zero [] n e = absurd (omega arith)
at-zero (b ∷ []) n e = rw e refl
at-zero (b ∷ c ∷ xs) n e = rw e refl

pub at-end : (xs : Text) → length xs ≡ 1 → get_or xs 0 0 ≡ 39 → literal_length xs ≡ Some 0
unfolding literal_length
at-end [] n e = absurd (omega arith)
at-end (b ∷ []) n e = rw e refl
at-end (b ∷ c ∷ xs) n e = absurd (omega arith)

pub at-last : (xs : Text) → 1 < length xs → get_or xs 0 0 ≡ 39 → get_or xs 1 0 ≢ 39 → literal_length xs ≡ Some 0
unfolding literal_length
at-last [] n e other = absurd (omega arith)
at-last (b ∷ []) n e other = absurd (omega arith)
at-last (b ∷ c ∷ xs) n e other = let f : eqb c 39 ≡ false = ne_eqb c 39 other in rw (e, f) refl

pub at-doubled : (xs : Text) → 1 < length xs → get_or xs 0 0 ≡ 39 → get_or xs 1 0 ≡ 39 → literal_length xs ≡ further 2 (literal_length (drop 2 xs))
unfolding literal_length
at-doubled [] n e f = absurd (omega arith)
at-doubled (b ∷ []) n e f = absurd (omega arith)
at-doubled (b ∷ c ∷ xs) n e f = rw (e, f) refl

drop-none : (n : ℕ) → drop {A = ℕ} n [] ≡ []
drop-none zero = refl
drop-none (suc n) = refl

pub drop-plus : (n k : ℕ) (xs : Text) → drop k (drop n xs) ≡ drop (n + k) xs
drop-plus zero k xs = ap (λ (j : ℕ). drop j xs) (omega arith)
drop-plus (suc n) k [] = drop-none k ∙ sym (drop-none (suc n + k))
drop-plus (suc n) k (x ∷ xs) = let sums : suc (n + k) ≡ suc n + k = omega arith in drop-plus n k xs ∙ ap (λ (j : ℕ). drop j (x ∷ xs)) sums

-- the first stop after the n-th byte, of the part of the text that is searched
pub to_stop : (xs : Text) (n k : ℕ) → n ≤ length xs → (NoneBefore (Passes is_stop (take (length xs - n) (drop n xs))) 0 (length (take (length xs - n) (drop n xs))) k) × Passes is_stop (take (length xs - n) (drop n xs)) k
    → (literal_length (drop n xs) ≡ further k (literal_length (drop (n + k) xs))) × (n + k < length xs) × (is_stop (get_or xs (n + k) 0) ≡ true)
to_stop xs n k le found =
    let all : take (length xs - n) (drop n xs) ≡ drop n xs = take_all _ _ (omega (arith, length-drop n xs)) in
    let P : Text → Type 0 = λ ys. (NoneBefore (Passes is_stop ys) 0 (length ys) k) × Passes is_stop ys k in
    let first : (NoneBefore (Passes is_stop (drop n xs)) 0 (length (drop n xs)) k) × Passes is_stop (drop n xs) k = subst P all found in
    let skipped = plain (drop n xs) k (omega (arith, first.0.high)) first.0.before in
    (skipped ∙ ap (λ (ys : Text). further k (literal_length ys)) (drop-plus n k xs), omega (arith, first.0.high, length-drop n xs), ap is_stop (sym (get_or-drop n xs k 0)) ∙ first.1)

pub no_stop : (xs : Text) (n : ℕ) → n ≤ length xs → Nowhere (Passes is_stop (take (length xs - n) (drop n xs))) 0 (length (take (length xs - n) (drop n xs))) → literal_length (drop n xs) ≡ None
no_stop xs n le never =
    let all : take (length xs - n) (drop n xs) ≡ drop n xs = take_all _ _ (omega (arith, length-drop n xs)) in
    let P : Text → Type 0 = λ ys. Nowhere (Passes is_stop ys) 0 (length ys) in
    never-ends (drop n xs) (subst P all never)

quote_or_zero : (b : ℕ) → is_stop b ≡ true → (b ≡ 0 → ⊥) → b ≡ 39
quote_or_zero b s z = let none : eqb b 0 ≡ false = ne_eqb b 0 z in grind (arith, nat_tests)

-- a stop at a place, by what stands there
pub stop-zero : (xs : Text) (m : ℕ) → get_or xs m 0 ≡ 0 → m < length xs → literal_length (drop m xs) ≡ None
stop-zero xs m e lt = at-zero (drop m xs) (omega (arith, length-drop m xs)) (get_or-drop m xs 0 0 ∙ ap (λ (j : ℕ). get_or xs j 0) (omega arith) ∙ e)

pub stop-end : (xs : Text) (m : ℕ) → is_stop (get_or xs m 0) ≡ true → (get_or xs m 0 ≡ 0 → ⊥) → m + 1 ≡ length xs → literal_length (drop m xs) ≡ Some 0
stop-end xs m s z e = at-end (drop m xs) (omega (arith, length-drop m xs)) (get_or-drop m xs 0 0 ∙ ap (λ (j : ℕ). get_or xs j 0) (omega arith) ∙ quote_or_zero _ s z)

pub stop-last : (xs : Text) (m : ℕ) → is_stop (get_or xs m 0) ≡ true → (get_or xs m 0 ≡ 0 → ⊥) → m + 1 < length xs → (get_or xs (m + 1) 0 ≡ 39 → ⊥) → literal_length (drop m xs) ≡ Some 0
stop-last xs m s z lt other =
    at-last (drop m xs) (omega (arith, length-drop m xs)) (get_or-drop m xs 0 0 ∙ ap (λ (j : ℕ). get_or xs j 0) (omega arith) ∙ quote_or_zero _ s z) (λ e. other (sym (get_or-drop m xs 1 0) ∙ e))

pub stop-doubled : (xs : Text) (m : ℕ) → is_stop (get_or xs m 0) ≡ true → (get_or xs m 0 ≡ 0 → ⊥) → m + 1 < length xs → get_or xs (m + 1) 0 ≡ 39 → literal_length (drop m xs) ≡ further 2 (literal_length (drop (m + 2) xs))
stop-doubled xs m s z lt e =
    at-doubled (drop m xs) (omega (arith, length-drop m xs)) (get_or-drop m xs 0 0 ∙ ap (λ (j : ℕ). get_or xs j 0) (omega arith) ∙ quote_or_zero _ s z) (get_or-drop m xs 1 0 ∙ e)
    ∙ ap (λ (ys : Text). further 2 (literal_length ys)) (drop-plus m 2 xs)

-- what the loop has passed, with what comes next
pub joined : (a b : ℕ) (whole o p q : Option ℕ) → whole ≡ further a o → o ≡ further b p → p ≡ q → whole ≡ further (a + b) q
joined a b whole o p q e f h = e ∙ ap (further a) (f ∙ ap (further b) h) ∙ further-further a b q

pub ended : (a b : ℕ) (whole o p : Option ℕ) → whole ≡ further a o → o ≡ further b p → p ≡ Some 0 → whole ≡ Some (a + b)
ended a b whole o p e f h = joined a b whole o p (Some 0) e f h ∙ ap Some (omega arith)

-- what a text stands for, byte by byte
pub unquoted-empty : (xs : Text) → length xs < 1 → unquoted xs ≡ []
unfolding unquoted
unquoted-empty [] n = refl
unquoted-empty (b ∷ xs) n = absurd (omega arith)

pub unquoted-plain : (xs : Text) → 1 ≤ length xs → (get_or xs 0 0 ≡ 39 → ⊥) → unquoted xs ≡ get_or xs 0 0 ∷ unquoted (drop 1 xs)
unfolding unquoted
unquoted-plain [] n other = absurd (omega arith)
unquoted-plain (b ∷ []) n other = refl
unquoted-plain (b ∷ c ∷ xs) n other = let f : eqb b 39 ≡ false = ne_eqb b 39 other in rw f refl

pub unquoted-last : (xs : Text) → 1 ≤ length xs → length (drop 1 xs) < 1 → unquoted xs ≡ get_or xs 0 0 ∷ unquoted (drop 1 xs)
unfolding unquoted
unquoted-last [] n m = absurd (omega arith)
unquoted-last (b ∷ []) n m = refl
unquoted-last (b ∷ c ∷ xs) n m = absurd (omega arith)

pub unquoted-doubled : (xs : Text) → 1 ≤ length xs → 1 ≤ length (drop 1 xs) → get_or xs 0 0 ≡ 39 → unquoted xs ≡ get_or xs 0 0 ∷ unquoted (drop 1 (drop 1 xs))
unfolding unquoted
unquoted-doubled [] n m e = absurd (omega arith)
unquoted-doubled (b ∷ []) n m e = absurd (omega arith)
unquoted-doubled (b ∷ c ∷ xs) n m e = let f : eqb b 39 ≡ true = eq-eqb b 39 e in rw f refl

short_either : (b c : ℕ) (xs : Text) (t : Bool) → length (unquoted xs) ≤ length xs → length (unquoted (c ∷ xs)) ≤ length (c ∷ xs)
    → length (if t then b ∷ unquoted xs else b ∷ unquoted (c ∷ xs)) ≤ length (b ∷ c ∷ xs)
short_either b c xs true one two = omega (arith, one)
short_either b c xs false one two = omega (arith, two)

pub unquoted-short : (xs : Text) → length (unquoted xs) ≤ length xs
unfolding unquoted
unquoted-short [] = omega arith
unquoted-short (b ∷ []) = omega arith
unquoted-short (b ∷ c ∷ xs) = short_either b c xs (eqb b 39) (unquoted-short xs) (unquoted-short (c ∷ xs))

-- the tail that a slice pattern gives
tail_is : (xs : Text) → take (length xs - 1) (drop 1 xs) ≡ drop 1 xs
tail_is xs = take_all _ _ (omega (arith, length-drop 1 xs))

abbrev tail_of : Text → Text
tail_of xs = take (length xs - 1) (drop 1 xs)

pub byte-plain : (xs : Text) → 1 ≤ length xs → (get_or xs 0 0 ≡ 39 → ⊥) → unquoted xs ≡ get_or xs 0 0 ∷ unquoted (tail_of xs)
byte-plain xs n other = unquoted-plain xs n other ∙ ap (λ (ys : Text). get_or xs 0 0 ∷ unquoted ys) (sym (tail_is xs))

pub byte-last : (xs : Text) → 1 ≤ length xs → length (tail_of xs) < 1 → unquoted xs ≡ get_or xs 0 0 ∷ unquoted (tail_of xs)
byte-last xs n m = unquoted-last xs n (omega (arith, ap length (tail_is xs), m)) ∙ ap (λ (ys : Text). get_or xs 0 0 ∷ unquoted ys) (sym (tail_is xs))

pub byte-doubled : (xs : Text) → 1 ≤ length xs → 1 ≤ length (tail_of xs) → get_or xs 0 0 ≡ 39 → unquoted xs ≡ get_or xs 0 0 ∷ unquoted (tail_of (tail_of xs))
byte-doubled xs n m e =
    unquoted-doubled xs n (omega (arith, ap length (tail_is xs), m)) e
    ∙ ap (λ (ys : Text). get_or xs 0 0 ∷ unquoted ys) (sym (tail_is (tail_of xs) ∙ ap (λ (ys : Text). drop 1 ys) (tail_is xs)))
