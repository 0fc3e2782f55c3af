-- The first tab ends the first field of a line.
use Rattle.std.proofs.Common.{◌≡◌, ◌≢◌, ℕ, zero, suc, ◌+◌, ◌-◌, ◌<◌, List, [], ◌∷◌, length, get_or, take, drop, refl, arith, ◌∙◌, true, false, eqb, eq-eqb}
use Rattle.std.proofs.lemmas.Bool.{ne_eqb}
use Rattle.std.proofs.Math.Numerals.{add-one}
use Rattle.message_view.proofs.Ints.{to_end}
use Rattle.session_catalogue.specs.Catalogues.{fields}

fields-first : (t : List ℕ) (k : ℕ) → k < length t → get_or t k 0 ≡ 9 → ((j : ℕ) → j < k → get_or t j 0 ≢ 9) → fields t ≡ take k t ∷ fields (drop (suc k) t)
unfolding fields
fields-first [] k lt is before = absurd (omega arith)
fields-first (b ∷ bs) zero lt is before = let t : eqb b 9 ≡ true = eq-eqb b 9 is in rw t refl
fields-first (b ∷ bs) (suc k) lt is before =
    let t : eqb b 9 ≡ false = ne_eqb b 9 (before 0 (omega arith)) in
    let rest = fields-first bs k (omega arith) is (λ j h. before (suc j) (omega arith)) in
    rw (t, rest) refl

pub fields-whole : (t : List ℕ) → ((j : ℕ) → j < length t → get_or t j 0 ≢ 9) → fields t ≡ t ∷ []
unfolding fields
fields-whole [] never = refl
fields-whole (b ∷ bs) never =
    let t : eqb b 9 ≡ false = ne_eqb b 9 (never 0 (omega arith)) in
    let rest = fields-whole bs (λ j h. never (suc j) (omega arith)) in
    rw (t, rest) refl

pub fields-cut : (t : List ℕ) (k : ℕ) → k < length t → get_or t k 0 ≡ 9 → ((j : ℕ) → j < k → get_or t j 0 ≢ 9) → fields t ≡ take k t ∷ fields (take (length t - (k + 1)) (drop (k + 1) t))
fields-cut t k lt is before = fields-first t k lt is before ∙ rw (to_end (k + 1) t, add-one) refl
