-- A parameter put at its place.
use Rattle.std.proofs.Common.{◌≡◌, suc, List, [], ◌∷◌, refl, ap, Bool, true, false, slice_set, insert}
use Rattle.std.specs.Prelude.{bytes_eq, if◌then◌else◌}
use Rattle.start_keys.specs.Places.{place_in, is_at}
use Rattle.session_values.specs.Lawful.{is_before}
use Rattle.start_keys.specs.StartPairs.{Pair, put, put_here}

here_set : (p q : Pair) (qs : List Pair) (same : Bool) → same ≡ true → (if same then p ∷ qs else p ∷ q ∷ qs) ≡ p ∷ qs
here_set p q qs true h = refl
here_set p q qs false h = absurd cc

here_new : (p q : Pair) (qs : List Pair) (same : Bool) → same ≡ false → (if same then p ∷ qs else p ∷ q ∷ qs) ≡ p ∷ q ∷ qs
here_new p q qs true h = absurd cc
here_new p q qs false h = refl

pub put_set : (p : Pair) (qs : List Pair) → is_at (place_in p.0 qs) p.0 qs ≡ true → put p qs ≡ slice_set qs (place_in p.0 qs) p
put_set p [] h = absurd cc
put_set p (q ∷ qs) h = go (is_before q.0 p.0) h (put_set p qs)
  where
    go : (b : Bool) → is_at (if b then suc (place_in p.0 qs) else 0) p.0 (q ∷ qs) ≡ true → (is_at (place_in p.0 qs) p.0 qs ≡ true → put p qs ≡ slice_set qs (place_in p.0 qs) p) →
        (if b then q ∷ put p qs else put_here p q qs) ≡ slice_set (q ∷ qs) (if b then suc (place_in p.0 qs) else 0) p
    go true g ih = ap (λ (l : List Pair). q ∷ l) (ih g)
    go false g ih = here_set p q qs (bytes_eq q.0 p.0) g

pub put_new : (p : Pair) (qs : List Pair) → is_at (place_in p.0 qs) p.0 qs ≡ false → put p qs ≡ insert qs (place_in p.0 qs) p
put_new p [] h = refl
put_new p (q ∷ qs) h = go (is_before q.0 p.0) h (put_new p qs)
  where
    go : (b : Bool) → is_at (if b then suc (place_in p.0 qs) else 0) p.0 (q ∷ qs) ≡ false → (is_at (place_in p.0 qs) p.0 qs ≡ false → put p qs ≡ insert qs (place_in p.0 qs) p) →
        (if b then q ∷ put p qs else put_here p q qs) ≡ insert (q ∷ qs) (if b then suc (place_in p.0 qs) else 0) p
    go true g ih = ap (λ (l : List Pair). q ∷ l) (ih g)
    go false g ih = here_new p q qs (bytes_eq q.0 p.0) g
