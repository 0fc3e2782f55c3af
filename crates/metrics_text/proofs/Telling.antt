-- The text of labels tells their values: each byte is read back from its front.
use Rattle.std.proofs.Common.{◌≡◌, ◌∙◌, ap, refl, sym, arith, ℕ, ◌+◌, ◌*◌, ◌-◌, ◌<◌, ◌/◌, ◌%◌, List, [], ◌∷◌, ◌++◌, Bool, true, false, cond, length, drop, append_assoc}
use Rattle.std.specs.Prelude.{◌==◌, ◌&&◌, not, if◌then◌else◌, map, nat_lt}
use Rattle.std.specs.List.{flat_map, list_all}
use Rattle.std.proofs.lemmas.Bool.{cond-false, eqb-true, false≢true}
use Rattle.std.proofs.lemmas.Bool.Decides.{nat_tests}
use Rattle.log_lines.specs.Shown.{Text, hex_digit, is_printing}
use Rattle.metrics_text.specs.Labels.{behind_comma, joined, label_text, labels_text, value_byte, value_text}
use Rattle.metrics_text.specs.Laws.{LabelsTell, have_bytes, is_byte, names_of}

by_branch : {A : Type 0} (P : A → Type 0) (d : Bool) (x y : A) → (d ≡ true → P x) → (d ≡ false → P y) → P (cond d x y)
by_branch P true x y h k = h refl
by_branch P false x y h k = k refl

left : (x y : Bool) → (x && y) ≡ true → x ≡ true
left true y h = refl
left false y h = h

right : (x y : Bool) → (x && y) ≡ true → y ≡ true
right true y h = h
right false y h = absurd (false≢true h)

is_false : (b : Bool) → not b ≡ true → b ≡ false
is_false true h = sym h
is_false false h = refl

-- ---- reading a byte

unhex : ℕ → ℕ
unhex d = if nat_lt d 58 then d - 48 else d - 87

low : ℕ → Text → ℕ × Text
low h [] = (0, [])
low h (l ∷ t) = (16 * unhex h + unhex l, t)

high : Text → ℕ × Text
high [] = (0, [])
high (h ∷ t) = low h t

behind_mark : Text → ℕ × Text
behind_mark [] = (0, [])
behind_mark (x ∷ t) = high t

behind_backslash : Text → ℕ × Text
behind_backslash [] = (0, [])
behind_backslash (b ∷ t) = if b == 34 then (34, t) else behind_mark t

-- the byte that is told first, and what follows
first : Text → ℕ × Text
first [] = (0, [])
first (b ∷ t) = if b == 92 then behind_backslash t else (b, t)

digit : (n : ℕ) → unhex (hex_digit n) ≡ n % 16
unfolding unhex
digit n = by_branch (λ d. unhex d ≡ n % 16) (nat_lt (n % 16) 10) (48 + n % 16) (87 + n % 16) (λ h. grind (arith, nat_tests)) (λ h. grind (arith, nat_tests))

digits : (b : ℕ) → b < 256 → 16 * unhex (hex_digit (b / 16)) + unhex (hex_digit b) ≡ b
digits b small = omega (arith, digit (b / 16), digit b)

shown : (b : ℕ) (rest : Text) → (is_printing b && not (b == 92)) ≡ true → first (b ∷ rest) ≡ (b, rest)
unfolding first
shown b rest h = cond-false (b == 92) (behind_backslash rest) (b, rest) (is_false (b == 92) (right (is_printing b) (not (b == 92)) h))

read : (b : ℕ) (rest : Text) → b < 256 → first (value_byte b ++ rest) ≡ (b, rest)
unfolding first behind_backslash behind_mark high low
read b rest small =
    by_branch (λ (t : Text). first (t ++ rest) ≡ (b, rest)) (b == 34) (92 ∷ 34 ∷ []) (if is_printing b && not (b == 92) then b ∷ [] else 92 ∷ 92 ∷ 120 ∷ hex_digit (b / 16) ∷ hex_digit b ∷ [])
    (λ h. ap (λ (n : ℕ). (n, rest)) (sym (eqb-true b 34 h)))
    (λ h. by_branch (λ (t : Text). first (t ++ rest) ≡ (b, rest)) (is_printing b && not (b == 92)) (b ∷ []) (92 ∷ 92 ∷ 120 ∷ hex_digit (b / 16) ∷ hex_digit b ∷ [])
    (λ k. shown b rest k) (λ k. ap (λ (n : ℕ). (n, rest)) (digits b small)))

-- ---- reading a value

head_of : Text → ℕ
head_of [] = 0
head_of (b ∷ t) = b

rest_of : Text → Text
rest_of [] = []
rest_of (b ∷ t) = t

-- no byte is told by a quotation mark in front
unmarked : (b : ℕ) (rest : Text) → head_of (value_byte b ++ rest) ≡ 34 → ⊥
unfolding head_of
unmarked b rest =
    by_branch (λ (t : Text). head_of (t ++ rest) ≡ 34 → ⊥) (b == 34) (92 ∷ 34 ∷ []) (if is_printing b && not (b == 92) then b ∷ [] else 92 ∷ 92 ∷ 120 ∷ hex_digit (b / 16) ∷ hex_digit b ∷ [])
    (λ h e. omega (arith, e))
    (λ h. by_branch (λ (t : Text). head_of (t ++ rest) ≡ 34 → ⊥) (is_printing b && not (b == 92)) (b ∷ []) (92 ∷ 92 ∷ 120 ∷ hex_digit (b / 16) ∷ hex_digit b ∷ [])
    (λ k e. grind (arith, nat_tests)) (λ k e. omega (arith, e)))

small : (b : ℕ) → is_byte b ≡ true → b < 256
small b h = grind (arith, nat_tests)

-- a value's text ends at the first quotation mark that isn't told
values : (x y rest other : Text) → list_all is_byte x ≡ true → list_all is_byte y ≡ true → value_text x ++ 34 ∷ rest ≡ value_text y ++ 34 ∷ other → (x ≡ y) × (rest ≡ other)
unfolding head_of rest_of
values [] [] rest other p q e = (refl, ap rest_of e)
values [] (b ∷ y) rest other p q e = absurd (unmarked b (value_text y ++ 34 ∷ other) (sym (ap head_of (e ∙ append_assoc (value_byte b) (value_text y) (34 ∷ other)))))
values (a ∷ x) [] rest other p q e = absurd (unmarked a (value_text x ++ 34 ∷ rest) (ap head_of (sym (append_assoc (value_byte a) (value_text x) (34 ∷ rest)) ∙ e)))
values (a ∷ x) (b ∷ y) rest other p q e =
    let told = sym (read a (value_text x ++ 34 ∷ rest) (small a (left (is_byte a) (list_all is_byte x) p)))
    ∙ (ap first (sym (append_assoc (value_byte a) (value_text x) (34 ∷ rest)) ∙ (e ∙ append_assoc (value_byte b) (value_text y) (34 ∷ other)))
    ∙ read b (value_text y ++ 34 ∷ other) (small b (left (is_byte b) (list_all is_byte y) q))) in
    let others = values x y rest other (right (is_byte a) (list_all is_byte x) p) (right (is_byte b) (list_all is_byte y) q) (ap (λ (t : ℕ × Text). t.1) told) in
    let same : a ≡ b = ap (λ (t : ℕ × Text). t.0) told in
    (λ i. same i ∷ others.0 i, others.1)

-- ---- labels

behind_front : (front rest : Text) → drop (length front) (front ++ rest) ≡ rest
behind_front [] rest = refl
behind_front (b ∷ front) rest = behind_front front rest

behind_name : (n v rest : Text) → label_text (n, v) ++ rest ≡ n ++ (61 ∷ 34 ∷ (value_text v ++ 34 ∷ rest))
behind_name n v rest = append_assoc (n ++ (61 ∷ 34 ∷ value_text v)) (34 ∷ []) rest ∙ append_assoc n (61 ∷ 34 ∷ value_text v) (34 ∷ rest)

one : (m n x y rest other : Text) → m ≡ n → list_all is_byte x ≡ true → list_all is_byte y ≡ true → label_text (m, x) ++ rest ≡ label_text (n, y) ++ other → (x ≡ y) × (rest ≡ other)
unfolding rest_of
one m n x y rest other named p q e =
    let same = sym (behind_front m (61 ∷ 34 ∷ (value_text x ++ 34 ∷ rest)))
    ∙ (ap (λ (t : Text). drop (length m) t) (sym (behind_name m x rest) ∙ (e ∙ behind_name n y other))
    ∙ (ap (λ (t : Text). drop (length t) (n ++ (61 ∷ 34 ∷ (value_text y ++ 34 ∷ other)))) named ∙ behind_front n (61 ∷ 34 ∷ (value_text y ++ 34 ∷ other)))) in
    values x y rest other p q (ap (λ (t : Text). rest_of (rest_of t)) same)

first_name : List Text → Text
first_name [] = []
first_name (n ∷ names) = n

other_names : List Text → List Text
other_names [] = []
other_names (n ∷ names) = names

further : (xs ys : List (Text × Text)) → have_bytes xs ≡ true → have_bytes ys ≡ true → names_of xs ≡ names_of ys → flat_map behind_comma xs ++ 125 ∷ [] ≡ flat_map behind_comma ys ++ 125 ∷ [] → xs ≡ ys
unfolding first_name other_names rest_of
further [] [] p q named e = refl
further [] (y ∷ ys) p q named e = cc
further (x ∷ xs) [] p q named e = cc
further (x ∷ xs) (y ∷ ys) p q named e =
    let name : x.0 ≡ y.0 = ap first_name named in
    let told = sym (append_assoc (label_text x) (flat_map behind_comma xs) (125 ∷ [])) ∙ (ap rest_of e ∙ append_assoc (label_text y) (flat_map behind_comma ys) (125 ∷ [])) in
    let here = one x.0 y.0 x.1 y.1 (flat_map behind_comma xs ++ 125 ∷ []) (flat_map behind_comma ys ++ 125 ∷ []) name (left (list_all is_byte x.1) (have_bytes xs) p) (left (list_all is_byte y.1) (have_bytes ys) q) told in
    let others = further xs ys (right (list_all is_byte x.1) (have_bytes xs) p) (right (list_all is_byte y.1) (have_bytes ys) q) (ap other_names named) here.1 in
    λ i. (name i, here.0 i) ∷ others i

pub labels : LabelsTell
unfolding rest_of
labels [] [] p q named e = refl
labels [] (y ∷ ys) p q named e = cc
labels (x ∷ xs) [] p q named e = cc
labels (x ∷ xs) (y ∷ ys) p q named e = further (x ∷ xs) (y ∷ ys) p q named (ap (λ (t : Text). 44 ∷ rest_of t) e)
