-- Equal answers of readers have equal parts.
use Rattle.std.proofs.Common.{◌≡◌, ℕ, List, [], ◌∷◌, Result, Ok, Err, ap, refl, subst, true}
use Rattle.message_view.specs.declared.ViewError.{ViewError}
use Rattle.std.specs.Prelude.{is_ok}
use Rattle.message_view.specs.Reading.{Part, ◌>>=◌, rest_of, items_of, at_end}

abbrev rest-or : {A : Type 0} → Part A → List ℕ → List ℕ
rest-or (Ok x) rest = x.1
rest-or (Err f) rest = rest

abbrev part-or : {A : Type 0} → Part A → A → A
part-or (Ok x) part = x.0
part-or (Err f) part = part

abbrev given : {A : Type 0} → A × List ℕ → Part A
given x = Ok x

pub same_rest : {A : Type 0} {x y : A × List ℕ} → given x ≡ given y → x.1 ≡ y.1
same_rest {A} {x} {y} e = ap (λ (p : Part A). rest-or p x.1) e

pub same_part : {A : Type 0} {x y : A × List ℕ} → given x ≡ given y → x.0 ≡ y.0
same_part {A} {x} {y} e = ap (λ (p : Part A). part-or p x.0) e

pub bind-inv : {A B : Type 0} (part : Result A ViewError) (f : A → Result B ViewError) (y : B) → (part >>= f) ≡ Ok y → (x : A) × (part ≡ Ok x) × (f x ≡ Ok y)
bind-inv (Ok x) f y e = (x, refl, e)
bind-inv (Err g) f y e = absurd (cc)

abbrev ok-or : {A : Type 0} → Result A ViewError → A → A
ok-or (Ok x) y = x
ok-or (Err f) y = y

pub at_end-inv : {A : Type 0} (x y : A) (bytes : List ℕ) → at_end x bytes ≡ Ok y → (x ≡ y) × (bytes ≡ [])
at_end-inv {A} x y [] e = (ap (λ (r : Result A ViewError). ok-or r x) e, refl)
at_end-inv x y (b ∷ bytes) e = absurd (cc)

-- a fact of a part and its rest holds of the equal ones
pub carry : {A : Type 0} (P : A → List ℕ → Type 0) (x y : A × List ℕ) → given x ≡ given y → P x.0 x.1 → P y.0 y.1
carry {A} P x y e p = subst (λ (a : A). P a y.1) (same_part e) (subst (λ (r : List ℕ). P x.0 r) (same_rest e) p)

-- ---- lists

pub rest-more : {A : Type 0} (x : A) (others : Part (List A)) → rest_of (others >>= λ o. Ok (x ∷ o.0, o.1)) ≡ rest_of others
rest-more x (Ok o) = refl
rest-more x (Err e) = refl

pub more-items : {A : Type 0} (x : A) (others : Part (List A)) → is_ok {T = List A × List ℕ} (others >>= λ o. Ok (x ∷ o.0, o.1)) ≡ true
    → (items_of {A = A} (others >>= λ o. Ok (x ∷ o.0, o.1)) ≡ x ∷ items_of others) × (is_ok others ≡ true)
more-items x (Ok o) ok = (refl, refl)
more-items x (Err e) ok = absurd (cc)

pub found : {A : Type 0} (part : Part (List A)) (rest : List ℕ) → rest_of part ≡ Ok rest → part ≡ Ok (items_of part, rest)
found (Ok x) rest e = ap (λ r. Ok (x.0, r)) (cc)
found (Err f) rest e = absurd (cc)

pub fault : {A : Type 0} (part : Part (List A)) (f : ViewError) → rest_of part ≡ Err f → part ≡ Err f
fault (Ok x) f e = absurd (cc)
fault (Err g) f e = ap Err (cc)
