-- The rest of a slice, and a text without a zero byte.
use Rattle.std.proofs.Common.{◌≡◌, ◌≢◌, ℕ, suc, ◌-◌, ◌<◌, Bool, true, false, List, get_or, [], ◌∷◌, take, drop, length, refl, ap₂, arith, take_all, length-drop}
use Rattle.std.specs.Prelude.{◌==◌, ◌||◌}
use Rattle.std.proofs.lemmas.Bool.{eqb-true}
use Rattle.link_start.specs.Questions.{with_zero}

-- the rest of a slice from a place on
pub rest_at : (at : ℕ) (bytes : List ℕ) → take (length bytes - at) (drop at bytes) ≡ drop at bytes
rest_at at bytes = take_all (length bytes - at) (drop at bytes) (omega (arith, length-drop at bytes))

-- ---- a text without a zero byte

pub no_zero : (t : List ℕ) → ((j : ℕ) → j < length t → get_or t j 0 ≢ 0) → with_zero t ≡ false
no_zero [] h = refl
no_zero (b ∷ t) h = ap₂ (λ (x y : Bool). x || y) (differs b (h 0 (omega arith))) (no_zero t (λ j l. h (suc j) (omega (arith, l))))
  where
    differs : (n : ℕ) → n ≢ 0 → (n == 0) ≡ false
    differs n d = by (n == 0) refl
      where
        by : (x : Bool) → (n == 0) ≡ x → x ≡ false
        by true e = absurd (d (eqb-true n 0 e))
        by false e = refl
