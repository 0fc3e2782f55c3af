-- Tokens, one after the other.
use Rattle.std.proofs.Common.{◌≡◌, ℕ, zero, suc, ◌+◌, ◌-◌, ◌<◌, ◌≤◌, List, [], ◌∷◌, length, get_or, take, drop, Option, Some, None, refl, sym, ap, ◌∙◌, arith, Bool, true, false, length-take, length-drop}
use Rattle.std.proofs.lemmas.List.{take_all}
use Rattle.std.specs.Prelude.{take_while, ◌==◌}
use Rattle.std.proofs.lemmas.Bool.Decides.{nat_tests}
use Rattle.std.proofs.lemmas.List.Sums.{prefix_len-le-length}
use Rattle.std.proofs.lemmas.List.Folds.{length-prefix_len}
use Rattle.mini_sql.specs.Lexing.{front}
use Rattle.mini_sql.specs.Words.{Text, is_white, is_digit}
use Rattle.std.proofs.Math.Numerals.{add-one}
use Rattle.std.specs.Prelude.{◌++◌, ◌≢◌, MatchBool}
use Rattle.mini_sql.specs.Statements.{is_sign, less_semicolon, phrase}
use Rattle.mini_sql.specs.Tokens.{Token, Digits, Literal, semicolon, digits_token, literal_length, unquoted, tokens_after, tokens, after_token, token_at, token_then}

pub tokens-white : (xs : Text) → 0 < length xs → is_white (get_or xs 0 0) ≡ true → tokens xs ≡ tokens (drop 1 xs)
unfolding tokens_after
tokens-white [] h w = absurd (omega arith)
tokens-white (b ∷ xs) h w = rw w refl

pub tokens-drop : (n : ℕ) (xs : Text) → tokens_after n xs ≡ tokens (drop n xs)
unfolding tokens_after
tokens-drop zero xs = refl
tokens-drop (suc n) [] = refl
tokens-drop (suc n) (b ∷ xs) = tokens-drop n xs

-- the loop of after_white, over one byte
pub white-goes-on : (xs text : Text) (n : ℕ) → 1 ≤ length xs → is_white (get_or xs 0 0) ≡ true → length xs - 1 ≤ n → tokens xs ≡ tokens text → tokens (take n (drop 1 xs)) ≡ tokens text
white-goes-on xs text n h w le so_far =
    let all : take n (drop 1 xs) ≡ drop 1 xs = take_all n (drop 1 xs) (omega (arith, length-drop 1 xs)) in
    rw all (sym (tokens-white xs (omega arith) w) ∙ so_far)

pub take-as-long : (k : ℕ) (xs : Text) → take (length (take k xs)) xs ≡ take k xs
take-as-long zero xs = refl
take-as-long (suc k) [] = refl
take-as-long (suc k) (x ∷ xs) = ap (λ (ys : Text). x ∷ ys) (take-as-long k xs)

minus_first : (xs : Text) (k : ℕ) → take (length (take k xs) + 1) (45 ∷ xs) ≡ 45 ∷ take k xs
minus_first xs k = rw add-one (ap (λ (ys : Text). 45 ∷ ys) (take-as-long k xs))

digits-some : (sign ds : Text) → 1 ≤ length ds → digits_token sign ds ≡ Some (Digits (sign ++ ds), length sign + length ds)
digits-some sign [] h = absurd (omega arith)
digits-some sign (d ∷ ds) h = refl

pub negative-front : (xs : Text) (n : ℕ) → 0 < length xs → get_or xs 0 0 ≡ 45 → n ≡ length (take_while is_digit (drop 1 xs)) → (n ≡ 0 → ⊥)
    → (front xs ≡ Some (Digits (take (n + 1) xs), n + 1)) × (1 ≤ n + 1) × (n + 1 ≤ length xs)
negative-front [] n h e same some = absurd (omega arith)
negative-front (b ∷ xs) n h e same some =
    let found = take_while is_digit xs in
    let one : token_at 45 xs ≡ Some (Digits (45 ∷ found), 1 + length found) = digits-some (45 ∷ []) found (omega (arith, same, some)) in
    let digits : take (n + 1) (45 ∷ xs) ≡ 45 ∷ found = ap (λ (k : ℕ). take (k + 1) (45 ∷ xs)) same ∙ minus_first xs _ in
    let long : n ≤ length xs = omega (arith, same, prefix_len-le-length is_digit xs, length-prefix_len is_digit xs) in
    (rw e (one ∙ rw digits (ap (λ (k : ℕ). Some (Digits (45 ∷ found), k)) (omega (arith, same)))), omega arith, omega arith)

pub literal-front : (xs : Text) (n : ℕ) → 0 < length xs → get_or xs 0 0 ≡ 39 → Some n ≡ literal_length (take (length xs - 1) (drop 1 xs)) → front xs ≡ Some (Literal (unquoted (take n (take (length xs - 1) (drop 1 xs)))), n + 2)
literal-front [] n h e f = absurd (omega arith)
literal-front (b ∷ xs) n h e f =
    let all : take (length (b ∷ xs) - 1) xs ≡ xs = take_all _ _ (omega arith) in
    let same : literal_length xs ≡ Some n = ap literal_length (sym all) ∙ sym f in
    rw (all, e, same) refl

-- a text that begins with no white space: its first token, and those after it
pub tokens-front : (xs : Text) (t : Token) (n : ℕ) → 0 < length xs → is_white (get_or xs 0 0) ≡ false → front xs ≡ Some (t, n) → 1 ≤ n → tokens xs ≡ after_token t (tokens (drop n xs))
unfolding tokens_after
tokens-front [] t n h w e le = absurd (omega arith)
tokens-front (b ∷ xs) t zero h w e le = absurd (omega arith)
tokens-front (b ∷ xs) t (suc n) h w e le =
    let less : suc n - 1 ≡ n = omega arith in
    rw (w, e) (ap (λ (k : ℕ). after_token t (tokens_after k xs)) less ∙ ap (after_token t) (tokens-drop n xs))

pub tokens-no_front : (xs : Text) → 0 < length xs → is_white (get_or xs 0 0) ≡ false → front xs ≡ None → tokens xs ≡ None
unfolding tokens_after
tokens-no_front [] h w e = absurd (omega arith)
tokens-no_front (b ∷ xs) h w e = rw (w, e) refl

pub tokens-empty : (xs : Text) → true ≡ (length xs == 0) → tokens xs ≡ Some []
unfolding tokens_after
tokens-empty [] e = refl
tokens-empty (b ∷ xs) e = absurd (grind (arith, nat_tests))

pub is_long : (xs : Text) → false ≡ (length xs == 0) → 0 < length xs
is_long [] e = absurd (cc)
is_long (b ∷ xs) e = omega arith

after_some : (t : Token) (o : Option (List Token)) → after_token t o ≡ Some [] → ⊥
after_some t None e = cc
after_some t (Some ts) e = cc

then_some : (o : Option (Token × ℕ)) (rest : ℕ → Option (List Token)) → token_then o rest ≡ Some [] → ⊥
then_some None rest e = cc
then_some (Some x) rest e = after_some x.0 _ e

pub tokens-some : (xs : Text) → 0 < length xs → is_white (get_or xs 0 0) ≡ false → tokens xs ≡ Some [] → ⊥
unfolding tokens_after
tokens-some [] h w e = absurd (omega arith)
tokens-some (b ∷ xs) h w e = then_some (token_at b xs) (λ n. tokens_after n xs) (rw w at e)

pub blank : (r : Bool) (xs text : Text) → r ≡ (length xs == 0) → tokens xs ≡ tokens text → (0 < length xs → is_white (get_or xs 0 0) ≡ false) → MatchBool r (tokens text ≡ Some []) (tokens text ≢ Some [])
blank true xs text e same first = sym same ∙ tokens-empty xs e
blank false xs text e same first = let long = is_long xs e in λ h. tokens-some xs long (first long) (same ∙ h)

-- a semicolon that ends the text, and a token that doesn't
pub less-last : (t : Token) (o : Option (List Token)) → true ≡ is_sign semicolon t → o ≡ Some [] → less_semicolon (after_token t o) ≡ Some []
unfolding less_semicolon
less-last t o s e = rw (e, ← s) refl

pub less-other : (t : Token) (o : Option (List Token)) → false ≡ is_sign semicolon t → less_semicolon (after_token t o) ≡ after_token t (less_semicolon o)
unfolding less_semicolon
less-other t None s = refl
less-other t (Some []) s = rw (← s) refl
less-other t (Some (u ∷ ts)) s = refl

pub less-more : (t : Token) (o : Option (List Token)) → o ≢ Some [] → less_semicolon (after_token t o) ≡ after_token t (less_semicolon o)
unfolding less_semicolon
less-more t None n = refl
less-more t (Some []) n = absurd (n refl)
less-more t (Some (u ∷ ts)) n = refl

pub less-blank : (r : Bool) (t : Token) (rest : Text) → true ≡ is_sign semicolon t → MatchBool r (tokens rest ≡ Some []) (tokens rest ≢ Some [])
    → MatchBool r (less_semicolon (after_token t (tokens rest)) ≡ Some []) (less_semicolon (after_token t (tokens rest)) ≡ after_token t (phrase rest))
unfolding phrase
less-blank true t rest s e = less-last t (tokens rest) s e
less-blank false t rest s e = less-more t (tokens rest) e

pub phrase-of : (text : Text) (o : Option (List Token)) → tokens text ≡ o → phrase text ≡ less_semicolon o
unfolding phrase
phrase-of text o e = ap less_semicolon e

pub after-first : (xs : Text) (n : ℕ) → n < length (take (length xs - 1) (drop 1 xs)) → n < length xs - 1
after-first xs n h = omega (arith, length-take (length xs - 1) (drop 1 xs), length-drop 1 xs)

pub after-shorter : (xs text : Text) (n : ℕ) → length xs ≤ length text → length (take n (drop 1 xs)) ≤ length text
after-shorter xs text n le = omega (arith, le, length-take n (drop 1 xs), length-drop 1 xs)
