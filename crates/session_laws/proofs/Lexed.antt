-- What the tokens of a text are, where no byte of the text is zero.
use Rattle.std.proofs.Common.{◌≡◌, ℕ, zero, suc, ◌+◌, ◌-◌, ◌*◌, ◌<◌, ◌≤◌, List, [], ◌∷◌, length, take, take_while, Option, Some, None, refl, sym, subst, Bool, true, false, cond, ◌==◌, arith, leb-true, length-append, length-take}
use Rattle.std.specs.Prelude.{if◌then◌else◌, nat_le}
use Rattle.std.specs.List.{AllByRecursion}
use Rattle.std.proofs.lemmas.List.Sums.{take_while-cons}
use Rattle.message_view.specs.Bodies.{HasNoZero}
use Rattle.mini_sql.specs.Words.{Text, is_digit, is_white, starts_name, is_in_name}
use Rattle.mini_sql.specs.Tokens.{Token, Name, Literal, Digits, Parameter, Sign, quote, further, literal_length, unquoted, literal_token, name_token, digits_token, parameter_token, is_sign_byte, token_at, after_token, token_then, tokens_after, tokens}
use Rattle.mini_sql.specs.Statements.{is_last_semicolon, without_semicolon, less_semicolon, phrase}
use Rattle.session_values.proofs.Alls.{OfSome, plain-text, all-append, all-take, and-second}

-- at most as many bytes as the token takes
abbrev pub size : Token → ℕ
size (Name n) = length n
size (Literal v) = length v + 1
size (Digits ds) = length ds
size (Parameter n) = 1
size (Sign s) = 1

abbrev pub sizes : List Token → ℕ
sizes [] = 0
sizes (t ∷ ts) = size t + sizes ts

abbrev pub IsToken : Token → Type 0
IsToken (Name n) = HasNoZero n × (1 ≤ length n) × (length n ≤ 63)
IsToken (Literal v) = HasNoZero v
IsToken (Digits ds) = HasNoZero ds × 1 ≤ length ds
IsToken (Parameter n) = n ≤ 99
IsToken (Sign s) = Unit {0}

abbrev pub AreTokens : List Token → Type 0
AreTokens ts = AllByRecursion IsToken ts

pub token-size : (t : Token) → IsToken t → 1 ≤ size t
token-size (Name n) h = h.1
token-size (Literal v) h = omega arith
token-size (Digits ds) h = h.1
token-size (Parameter n) h = omega arith
token-size (Sign s) h = omega arith

-- ---- parts of texts

abbrev IsNotZero : ℕ → Type 0
IsNotZero b = 0 < b

while-plain : (test : ℕ → Bool) (t : Text) → HasNoZero t → HasNoZero (take_while test t)
while-plain test t h = all-take IsNotZero _ t h

take-short : (n : ℕ) (t : Text) → length (take n t) ≤ length t
take-short n t = omega (arith, length-take n t)

while-short : (test : ℕ → Bool) (t : Text) → length (take_while test t) ≤ length t
while-short test t = take-short _ t

while-each : (test : ℕ → Bool) (t : Text) → AllByRecursion (λ b. test b ≡ true) (take_while test t)
while-each test [] = tt
while-each test (b ∷ t) = subst (λ (x : Text). AllByRecursion (λ b. test b ≡ true) x) (sym (take_while-cons test b t)) (by_test (test b) refl (while-each test t))
  where
    by_test : (c : Bool) → test b ≡ c → AllByRecursion (λ b. test b ≡ true) (take_while test t) → AllByRecursion (λ b. test b ≡ true) (cond c (b ∷ take_while test t) [])
    by_test true e h = (e, h)
    by_test false e h = tt

-- ---- one token

-- a token and how many bytes it takes, of so many
abbrev IsFront : ℕ → Token × ℕ → Type 0
IsFront n x = IsToken x.0 × (size x.0 ≤ x.1) × (x.1 ≤ n)

choose-some : {A : Type 0} (P : A → Type 0) (b : Bool) (x y : Option A) → (b ≡ true → OfSome P x) → (b ≡ false → OfSome P y) → OfSome P (if b then x else y)
choose-some P true x y h k = h refl
choose-some P false x y h k = k refl

begun-name : (b : ℕ) (rest : Text) → starts_name b ≡ true → 1 ≤ length (take_while is_in_name (b ∷ rest))
begun-name b rest h =
    let e : is_in_name b ≡ true = rw h refl in
    let w = take_while-cons is_in_name b rest in
    rw (w, e) (omega arith)

name-told : (n : ℕ) (t : Text) → HasNoZero t → 1 ≤ length t → length t ≤ n → OfSome (IsFront n) (name_token t)
name-told n t h k l = choose-some (IsFront n) (nat_le (length t) 63) (Some (Name t, length t)) None (λ e. ((h, k, leb-true (length t) 63 e), omega arith, l)) (λ e. tt)

digits-told : (n : ℕ) (sign ds : Text) → HasNoZero sign → HasNoZero ds → length sign + length ds ≤ n → OfSome (IsFront n) (digits_token sign ds)
digits-told n sign [] h k l = tt
digits-told n sign (d ∷ ds) h k l = ((all-append IsNotZero sign (d ∷ ds) h k, omega (arith, length-append sign (d ∷ ds))), omega (arith, length-append sign (d ∷ ds)), l)

digit-small : (d : ℕ) → is_digit d ≡ true → d ≤ 57
digit-small d h = leb-true d 57 (and-second (nat_le 48 d) (nat_le d 57) h)

parameter-told : (n : ℕ) (ds : Text) → AllByRecursion (λ d. is_digit d ≡ true) ds → 1 + length ds ≤ n → OfSome (IsFront n) (parameter_token ds)
parameter-told n [] h l = tt
parameter-told n (d ∷ []) h l = choose-some (IsFront n) (d == 48) None (Some (Parameter (d - 48), 2)) (λ e. tt) (λ e. (omega (arith, digit-small d h.0), omega arith, omega arith))
parameter-told n (d ∷ e ∷ []) h l = choose-some (IsFront n) (d == 48) None (Some (Parameter (10 * (d - 48) + (e - 48)), 3)) (λ z. tt) (λ z. (omega (arith, digit-small d h.0, digit-small e h.1.0), omega arith, omega arith))
parameter-told n (d ∷ e ∷ f ∷ ds) h l = tt

-- ---- literals

abbrev Within : Text → ℕ → Type 0
Within t n = n + 1 ≤ length t

further-within : (m : ℕ) (s t : Text) (o : Option ℕ) → length s + m ≤ length t → OfSome (Within s) o → OfSome (Within t) (further m o)
further-within m s t None l h = tt
further-within m s t (Some n) l h = omega (arith, h)

literal-within : (t : Text) → OfSome (Within t) (literal_length t)
unfolding literal_length
literal-within [] = tt
literal-within (b ∷ []) = choose-some (Within (b ∷ [])) (b == quote) (Some 0) None (λ e. omega arith) (λ e. tt)
literal-within (b ∷ c ∷ rest) =
    choose-some (Within (b ∷ c ∷ rest)) (b == quote) _ _
    (λ e. choose-some (Within (b ∷ c ∷ rest)) (c == quote) _ _ (λ f. further-within 2 rest (b ∷ c ∷ rest) (literal_length rest) (omega arith) (literal-within rest)) (λ f. omega arith))
    (λ e. choose-some (Within (b ∷ c ∷ rest)) (b == 0) _ _ (λ f. tt) (λ f. further-within 1 (c ∷ rest) (b ∷ c ∷ rest) (literal_length (c ∷ rest)) (omega arith) (literal-within (c ∷ rest))))

-- no zero byte, and no more bytes
abbrev IsUnquoted : ℕ → Text → Type 0
IsUnquoted n t = AllByRecursion IsNotZero t × length t ≤ n

longer-unquoted : (b m n : ℕ) (t : Text) → IsNotZero b → suc m ≤ n → IsUnquoted m t → IsUnquoted n (b ∷ t)
longer-unquoted b m n t z l h = ((z, h.0), omega (arith, h.1))

choose-text : (P : Text → Type 0) (b : Bool) (x y : Text) → P x → P y → P (if b then x else y)
choose-text P true x y h k = h
choose-text P false x y h k = k

unquoted-told : (t : Text) → AllByRecursion IsNotZero t → IsUnquoted (length t) (unquoted t)
unfolding unquoted
unquoted-told [] h = (tt, omega arith)
unquoted-told (b ∷ []) h = (h, omega arith)
unquoted-told (b ∷ c ∷ rest) h =
    choose-text (IsUnquoted (length (b ∷ c ∷ rest))) (b == quote) _ _
    (longer-unquoted b (length rest) (length (b ∷ c ∷ rest)) (unquoted rest) h.0 (omega arith) (unquoted-told rest h.1.1))
    (longer-unquoted b (length (c ∷ rest)) (length (b ∷ c ∷ rest)) (unquoted (c ∷ rest)) h.0 (omega arith) (unquoted-told (c ∷ rest) h.1))

literal-told : (n : ℕ) (rest : Text) (o : Option ℕ) → HasNoZero rest → length rest + 1 ≤ n → OfSome (Within rest) o → OfSome (IsFront n) (literal_token rest o)
literal-told n rest None h l w = tt
literal-told n rest (Some m) h l w =
    let u = unquoted-told (take m rest) (all-take IsNotZero m rest h) in
    (u.0, omega (arith, u.1, length-take {A = ℕ} m rest), omega (arith, w))

-- ---- the tokens of a text

front-told : (b : ℕ) (rest : Text) → HasNoZero (b ∷ rest) → OfSome (IsFront (length rest + 1)) (token_at b rest)
front-told b rest h =
    let z : HasNoZero rest = h.1 in
    choose-some (IsFront (length rest + 1)) (starts_name b) _ _ (λ e. name-told (length rest + 1) (take_while is_in_name (b ∷ rest)) (while-plain is_in_name (b ∷ rest) h) (begun-name b rest e) (omega (arith, while-short is_in_name (b ∷ rest)))) (λ e.
    choose-some (IsFront (length rest + 1)) (is_digit b) _ _ (λ f. digits-told (length rest + 1) [] (take_while is_digit (b ∷ rest)) tt (while-plain is_digit (b ∷ rest) h) (omega (arith, while-short is_digit (b ∷ rest)))) (λ f.
    choose-some (IsFront (length rest + 1)) (b == 45) _ _ (λ g. digits-told (length rest + 1) (45 ∷ []) (take_while is_digit rest) (plain-text (45 ∷ []) refl) (while-plain is_digit rest z) (omega (arith, while-short is_digit rest))) (λ g.
    choose-some (IsFront (length rest + 1)) (b == 36) _ _ (λ i. parameter-told (length rest + 1) (take_while is_digit rest) (while-each is_digit rest) (omega (arith, while-short is_digit rest))) (λ i.
    choose-some (IsFront (length rest + 1)) (b == quote) _ _ (λ j. literal-told (length rest + 1) rest (literal_length rest) z (omega arith) (literal-within rest)) (λ j.
    choose-some (IsFront (length rest + 1)) (is_sign_byte b) _ _ (λ k. (tt, omega arith, omega arith)) (λ k. tt))))))

-- tokens of at most so many bytes
abbrev pub AreWithin : ℕ → List Token → Type 0
AreWithin n ts = AreTokens ts × sizes ts ≤ n

within-more : (m n : ℕ) (o : Option (List Token)) → m ≤ n → OfSome (AreWithin m) o → OfSome (AreWithin n) o
within-more m n None l h = tt
within-more m n (Some ts) l h = (h.0, omega (arith, h.1))

after-told : (t : Token) (k m n : ℕ) (o : Option (List Token)) → IsToken t → size t ≤ k → k + m ≤ n → OfSome (AreWithin m) o → OfSome (AreWithin n) (after_token t o)
after-told t k m n None z l e h = tt
after-told t k m n (Some ts) z l e h = ((z, h.0), omega (arith, h.1))

then-told : (n : ℕ) (x : Option (Token × ℕ)) (rest : ℕ → Option (List Token)) → OfSome (IsFront (n + 1)) x → ((k : ℕ) → OfSome (AreWithin (n - k)) (rest k)) → OfSome (AreWithin (n + 1)) (token_then x rest)
then-told n None rest h g = tt
then-told n (Some x) rest h g =
    let s = token-size x.0 h.0 in
    let l = h.1 in
    let m = h.2 in
    after-told x.0 x.1 (n - (x.1 - 1)) (n + 1) (rest (x.1 - 1)) h.0 h.1 (omega arith) (g (x.1 - 1))

pub tokens-told : (passed : ℕ) (bytes : Text) → HasNoZero bytes → OfSome (AreWithin (length bytes - passed)) (tokens_after passed bytes)
unfolding tokens_after
tokens-told zero [] h = (tt, omega arith)
tokens-told (suc n) [] h = (tt, omega arith)
tokens-told (suc n) (b ∷ bytes) h = within-more (length bytes - n) (length (b ∷ bytes) - suc n) (tokens_after n bytes) (omega arith) (tokens-told n bytes h.1)
tokens-told zero (b ∷ bytes) h =
    within-more (length bytes + 1) (length (b ∷ bytes) - 0) _ (omega arith) (
    choose-some (AreWithin (length bytes + 1)) (is_white b) _ _
    (λ e. within-more (length bytes - 0) (length bytes + 1) (tokens_after 0 bytes) (omega arith) (tokens-told 0 bytes h.1))
    (λ e. then-told (length bytes) (token_at b bytes) (λ n. tokens_after n bytes) (front-told b bytes h) (λ n. tokens-told n bytes h.1)))

choose-tokens : (n : ℕ) (b : Bool) (x y : List Token) → AreWithin n x → AreWithin n y → AreWithin n (if b then x else y)
choose-tokens n true x y h k = h
choose-tokens n false x y h k = k

less-within : (n : ℕ) (ts : List Token) → AreTokens ts → sizes ts ≤ n → AreWithin n (without_semicolon ts)
less-within n [] h l = (tt, omega arith)
less-within n (t ∷ ts) h l =
    let ih = less-within (sizes ts) ts h.1 (omega arith) in
    choose-tokens n (is_last_semicolon t ts) [] (t ∷ without_semicolon ts) (tt, omega arith) ((h.0, ih.0), omega (arith, ih.1))

less-told : (n : ℕ) (o : Option (List Token)) → OfSome (AreWithin n) o → OfSome (AreWithin n) (less_semicolon o)
unfolding less_semicolon
less-told n None h = tt
less-told n (Some ts) h = less-within n ts h.0 h.1

pub phrase-told : (t : Text) → HasNoZero t → OfSome (AreWithin (length t)) (phrase t)
unfolding phrase
phrase-told t h = less-told (length t) (tokens t) (within-more (length t - 0) (length t) (tokens t) (omega arith) (tokens-told 0 t h))
