-- How far a text is shown.
use Rattle.std.proofs.Common.{◌≡◌, ◌<◌, ◌+◌, ℕ, zero, suc, Bool, true, false, cond, List, [], ◌∷◌, length, drop, refl, ap, sym, ◌∙◌, arith}
use Rattle.std.proofs.Math.Numerals.{add-one}
use Rattle.settings_check.specs.Shown.{begins_password, shown_length}

abbrev step : Bool → List ℕ → ℕ
step b rest = cond b 8 (shown_length rest + 1)

at-byte : (text : List ℕ) (i : ℕ) → i < length text → shown_length (drop i text) ≡ step (begins_password (drop i text)) (drop (suc i) text)
unfolding shown_length
at-byte [] i within = absurd (omega arith)
at-byte (b ∷ bs) zero within = refl
at-byte (b ∷ bs) (suc i) within = at-byte bs i (omega arith)

-- the word stands here
pub stops : (text : List ℕ) (i : ℕ) → i < length text → begins_password (drop i text) ≡ true → shown_length (drop i text) ≡ 8
stops text i within here = at-byte text i within ∙ ap (λ b. step b (drop (suc i) text)) here

-- or later
pub goes_on : (text : List ℕ) (i : ℕ) → i < length text → begins_password (drop i text) ≡ false → shown_length (drop i text) ≡ shown_length (drop (i + 1) text) + 1
goes_on text i within later =
    at-byte text i within ∙ ap (λ b. step b (drop (suc i) text)) later ∙ ap (λ k. shown_length (drop k text) + 1) (sym (add-one i))
