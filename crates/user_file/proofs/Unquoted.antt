-- A field's text, byte by byte.
use Rattle.std.proofs.Common.{◌≡◌, ℕ, ◌-◌, ◌<◌, ◌≤◌, List, [], ◌∷◌, length, get_or, take, drop, refl, sym, ap, ◌∙◌, arith, true, false, eqb, eq-eqb, length-drop}
use Rattle.std.proofs.lemmas.Bool.{ne_eqb}
use Rattle.std.proofs.lemmas.List.{take_all}
use Rattle.user_file.specs.Fields.{unquoted}

pub unquoted-empty : (xs : List ℕ) → length xs < 1 → unquoted xs ≡ []
unquoted-empty [] n = refl
unquoted-empty (b ∷ xs) n = absurd (omega arith)

pub unquoted-plain : (xs : List ℕ) → 1 ≤ length xs → (get_or xs 0 0 ≡ 34 → ⊥) → unquoted xs ≡ get_or xs 0 0 ∷ unquoted (drop 1 xs)
unquoted-plain [] n other = absurd (omega arith)
unquoted-plain (b ∷ []) n other = refl
unquoted-plain (b ∷ c ∷ xs) n other = let f : eqb b 34 ≡ false = ne_eqb b 34 other in rw f refl

pub unquoted-last : (xs : List ℕ) → 1 ≤ length xs → length (drop 1 xs) < 1 → unquoted xs ≡ get_or xs 0 0 ∷ unquoted (drop 1 xs)
unquoted-last [] n m = absurd (omega arith)
unquoted-last (b ∷ []) n m = refl
unquoted-last (b ∷ c ∷ xs) n m = absurd (omega arith)

pub unquoted-doubled : (xs : List ℕ) → 1 ≤ length xs → 1 ≤ length (drop 1 xs) → get_or xs 0 0 ≡ 34 → unquoted xs ≡ get_or xs 0 0 ∷ unquoted (drop 1 (drop 1 xs))
unquoted-doubled [] n m e = absurd (omega arith)
unquoted-doubled (b ∷ []) n m e = absurd (omega arith)
unquoted-doubled (b ∷ c ∷ xs) n m e = let f : eqb b 34 ≡ true = eq-eqb b 34 e in rw f refl

-- the tail that a slice pattern gives
tail_is : (xs : List ℕ) → take (length xs - 1) (drop 1 xs) ≡ drop 1 xs
tail_is xs = take_all _ _ (omega (arith, length-drop 1 xs))

abbrev tail_of : List ℕ → List ℕ
tail_of xs = take (length xs - 1) (drop 1 xs)

pub byte-plain : (xs : List ℕ) → 1 ≤ length xs → (get_or xs 0 0 ≡ 34 → ⊥) → unquoted xs ≡ get_or xs 0 0 ∷ unquoted (tail_of xs)
byte-plain xs n other = unquoted-plain xs n other ∙ ap (λ (ys : List ℕ). get_or xs 0 0 ∷ unquoted ys) (sym (tail_is xs))

pub byte-last : (xs : List ℕ) → 1 ≤ length xs → length (tail_of xs) < 1 → unquoted xs ≡ get_or xs 0 0 ∷ unquoted (tail_of xs)
byte-last xs n m = unquoted-last xs n (omega (arith, ap length (tail_is xs), m)) ∙ ap (λ (ys : List ℕ). get_or xs 0 0 ∷ unquoted ys) (sym (tail_is xs))

pub byte-doubled : (xs : List ℕ) → 1 ≤ length xs → 1 ≤ length (tail_of xs) → get_or xs 0 0 ≡ 34 → unquoted xs ≡ get_or xs 0 0 ∷ unquoted (tail_of (tail_of xs))
byte-doubled xs n m e =
    unquoted-doubled xs n (omega (arith, ap length (tail_is xs), m)) e
    ∙ ap (λ (ys : List ℕ). get_or xs 0 0 ∷ unquoted ys) (sym (tail_is (tail_of xs) ∙ ap (λ (ys : List ℕ). drop 1 ys) (tail_is xs)))
