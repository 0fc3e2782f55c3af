-- What a number of decimal digits is not.
use Rattle.std.proofs.Common.{◌≡◌, ◌<◌, ◌≤◌, ◌+◌, ◌-◌, ◌*◌, ◌==◌, ◌&&◌, not, ℕ, Bool, true, false, cond, List, [], ◌∷◌, length, drop, Some, None, refl, sym, ap, ◌∙◌, arith}
use Rattle.std.specs.Prelude.{fold, slice_index}
use Rattle.std.specs.Char.{is_ascii_digit}
use Rattle.std.specs.List.{list_all}
use Rattle.std.proofs.lemmas.Bool.Decides.{nat_tests}
use Rattle.std.proofs.lemmas.List.{drop_all}
use Rattle.std.proofs.Math.Seq.{drop-cons}
use Rattle.std.proofs.Math.Numerals.{add-one}
use Rattle.ini_config.specs.Values.{digits_value, within, number_between}

-- one more digit
abbrev pub shifted : ℕ → ℕ → ℕ
shifted n d = 10 * n + (d - 48)

-- more digits don't make a number smaller
pub fold-grows : (n : ℕ) (digits : List ℕ) → n ≤ fold shifted n digits
fold-grows n [] = omega arith
fold-grows n (d ∷ digits) = omega (arith, fold-grows (shifted n d) digits)

pub fold-cons : (n : ℕ) (text : List ℕ) (i : ℕ) → i < length text → fold shifted n (drop i text) ≡ fold shifted (shifted n (slice_index text i)) (drop (i + 1) text)
fold-cons n text i within_text = rw (drop-cons text i 0 within_text, add-one) refl

pub digits-cons : (text : List ℕ) (i : ℕ) → i < length text → list_all is_ascii_digit (drop i text) ≡ (is_ascii_digit (slice_index text i) && list_all is_ascii_digit (drop (i + 1) text))
digits-cons text i within_text = rw (drop-cons text i 0 within_text, add-one) refl

pub no_digits : (low high : ℕ) (text : List ℕ) → list_all is_ascii_digit text ≡ false → number_between low high text ≡ None
unfolding number_between
no_digits low high text other = rw other (by (not (length text == 0)))
  where
    by : (b : Bool) → cond (b && false) (within low high (digits_value text)) None ≡ None
    by true = refl
    by false = refl

pub above : (low high : ℕ) (text : List ℕ) → high < digits_value text → number_between low high text ≡ None
unfolding number_between
above low high text over = by (not (length text == 0) && list_all is_ascii_digit text) (grind (arith, nat_tests))
  where
    by : (b : Bool) → within low high (digits_value text) ≡ None → cond b (within low high (digits_value text)) None ≡ None
    by true none = none
    by false none = refl

-- a byte that isn't a digit
pub stops_at : (low high : ℕ) (text : List ℕ) (i : ℕ) → i < length text → is_ascii_digit (slice_index text i) ≡ false
    → list_all is_ascii_digit (drop i text) ≡ list_all is_ascii_digit text → None ≡ number_between low high text
stops_at low high text i within_text other same =
    sym (no_digits low high text (sym same ∙ digits-cons text i within_text ∙ ap (λ b. b && list_all is_ascii_digit (drop (i + 1) text)) other))

-- a number that is too large already
pub stops_above : (low high total : ℕ) (text : List ℕ) (i : ℕ) → i < length text → fold shifted total (drop i text) ≡ digits_value text
    → high < shifted total (slice_index text i) → None ≡ number_between low high text
stops_above low high total text i within_text value over =
    let more = fold-cons total text i within_text in
    let grows = fold-grows (shifted total (slice_index text i)) (drop (i + 1) text) in
    sym (above low high text (omega (arith, more, grows, value, over)))

pub nothing : (low high : ℕ) (text : List ℕ) → length text ≡ 0 → None ≡ number_between low high text
unfolding number_between
nothing low high [] none = refl
nothing low high (b ∷ text) none = absurd (omega arith)

pub below : (low high : ℕ) (text : List ℕ) → digits_value text < low → None ≡ number_between low high text
unfolding number_between
below low high text under = by (not (length text == 0) && list_all is_ascii_digit text) (grind (arith, nat_tests))
  where
    by : (b : Bool) → None ≡ within low high (digits_value text) → None ≡ cond b (within low high (digits_value text)) None
    by true none = none
    by false none = refl

pub whole : (low high total : ℕ) (text : List ℕ) → list_all is_ascii_digit text ≡ true → 0 < length text → total ≡ digits_value text
    → low ≤ total → total ≤ high → Some total ≡ number_between low high text
unfolding number_between
whole low high total [] digits long value from to = absurd (omega arith)
whole low high total (b ∷ text) digits long value from to = rw (digits, ← value) (grind (arith, nat_tests))

-- past the last digit the total is the number
pub at_end : (total : ℕ) (text : List ℕ) (i : ℕ) → length text ≤ i → fold shifted total (drop i text) ≡ digits_value text
    → list_all is_ascii_digit (drop i text) ≡ list_all is_ascii_digit text → (total ≡ digits_value text) × (list_all is_ascii_digit text ≡ true)
at_end total text i past value digits =
    let none = drop_all i text past in (
      sym (ap (fold shifted total) none) ∙ value,
      sym digits ∙ ap (list_all is_ascii_digit) none,
    )
