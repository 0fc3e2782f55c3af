-- Whose bells are chosen.
use Rattle.std.proofs.Common.{◌≡◌, ◌⊎◌, ◌<◌, ◌%◌, ◌||◌, ℕ, zero, suc, Bool, true, List, [], ◌∷◌, Some, length, refl, sym, ap, ◌∙◌, inl, inr, arith, eqb-true}
use Rattle.std.specs.Prelude.{false, slice_get, slice_set}
use Rattle.std.specs.List.{list_any}
use Rattle.book_model.specs.Book.{is_number}
use Rattle.pool_desk.specs.Helping.{IsChosen}
use Rattle.pool_desk.specs.declared.bells.TheConstants.{BELLS}

set_here : (bells : List Bool) (i : ℕ) → i < length bells → slice_get (slice_set bells i true) i ≡ Some true
set_here [] i within = absurd (omega (arith, within))
set_here (b ∷ bs) zero within = refl
set_here (b ∷ bs) (suc i) within = set_here bs i (omega (arith, within))

set_kept : (bells : List Bool) (i j : ℕ) → slice_get bells j ≡ Some true → slice_get (slice_set bells i true) j ≡ Some true
set_kept [] i j e = e
set_kept (b ∷ bs) zero zero e = refl
set_kept (b ∷ bs) zero (suc j) e = e
set_kept (b ∷ bs) (suc i) zero e = e
set_kept (b ∷ bs) (suc i) (suc j) e = set_kept bs i j e

-- each of these clients is still to come, or its bell is chosen
abbrev pub ToChoose : List ℕ → List ℕ → List Bool → Type 0
ToChoose clients rest chosen = (n : ℕ) → list_any (is_number n) clients ≡ true → (list_any (is_number n) rest ≡ true) ⊎ IsChosen chosen n

-- one more is
pub one_chosen : (clients left rest : List ℕ) (client : ℕ) (old new : List Bool) → left ≡ client ∷ rest → length old ≡ BELLS → new ≡ slice_set old (client % BELLS) true → ToChoose clients left old → ToChoose clients rest new
one_chosen clients left rest client old new e long set to n there = of (to n there)
  where
    within : client % BELLS < length old
    within = omega (arith, long)

    or : (b : Bool) → is_number n client ≡ b → (b || list_any (is_number n) rest) ≡ true → (list_any (is_number n) rest ≡ true) ⊎ IsChosen new n
    or true k q = inr (ap (λ (m : ℕ). slice_get new (m % BELLS)) (sym (eqb-true client n k)) ∙ (ap (λ (bells : List Bool). slice_get bells (client % BELLS)) set ∙ set_here old (client % BELLS) within))
    or false k q = inl q

    of : (list_any (is_number n) left ≡ true) ⊎ IsChosen old n → (list_any (is_number n) rest ≡ true) ⊎ IsChosen new n
    of (inl q) = or (is_number n client) refl (sym (ap (λ (ns : List ℕ). list_any (is_number n) ns) e) ∙ q)
    of (inr q) = inr (ap (λ (bells : List Bool). slice_get bells (n % BELLS)) set ∙ set_kept old (client % BELLS) (n % BELLS) q)

-- at the end all are
pub all_chosen : (clients left : List ℕ) (chosen : List Bool) → left ≡ [] → ToChoose clients left chosen → (n : ℕ) → list_any (is_number n) clients ≡ true → IsChosen chosen n
all_chosen clients left chosen e to n there = of (to n there)
  where
    of : (list_any (is_number n) left ≡ true) ⊎ IsChosen chosen n → IsChosen chosen n
    of (inl q) = let none = sym (ap (λ (ns : List ℕ). list_any (is_number n) ns) e) ∙ q in absurd (cc)
    of (inr q) = q
