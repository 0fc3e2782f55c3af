-- A buffer with room keeps all.
use Rattle.std.proofs.Common.{◌≡◌, ◌∙◌, ap, subst, sym, arith, ℕ, ◌<◌, ◌≤◌, ◌+◌, ◌-◌, List, [], ◌∷◌, ◌++◌, length, drop, length-append}
use Rattle.circular_buffer.specs.Buffer.{Buffer, buffer, keep_last}

-- what a buffer with room for 1,024 is, when it was given one item more
pub record Stands {X : Type 0} (xs : List X) (x : X) (b : Buffer X) : Type 0 where
  pub capacity : b.capacity ≡ 1024
  pub items : b.items ≡ xs ++ x ∷ []
  pub few : length b.items ≤ 1024

none_over : (n m : ℕ) → m < n → m + 1 - n ≡ 0
none_over n m h = omega (arith, h)

all_kept : {X : Type 0} (n : ℕ) (xs : List X) (x : X) → length xs < n → keep_last n (xs ++ x ∷ []) ≡ xs ++ x ∷ []
all_kept n xs x h = ap (λ (k : ℕ). drop (k - n) (xs ++ x ∷ [])) (length-append xs (x ∷ [])) ∙ ap (λ (k : ℕ). drop k (xs ++ x ∷ [])) (none_over n (length xs) h)

few : (m k : ℕ) → m < 1024 → k ≡ m + 1 → k ≤ 1024
few m k h e = omega (arith, h, e)

pub stands : {X : Type 0} (cap : ℕ) (xs : List X) (x : X) (b : Buffer X) → cap ≡ 1024 → length xs < 1024 → b ≡ buffer (keep_last cap (xs ++ x ∷ [])) cap → Stands xs x b
stands {X} cap xs x b full room is = record { capacity = ap (λ (c : Buffer X). c.capacity) is ∙ full; items = all; few = few (length xs) (length b.items) room (ap (λ (ys : List X). length ys) all ∙ length-append xs (x ∷ [])) }
  where
    all : b.items ≡ xs ++ x ∷ []
    all = ap (λ (c : Buffer X). c.items) is ∙ all_kept cap xs x (subst (λ (n : ℕ). length xs < n) (sym full) room)
