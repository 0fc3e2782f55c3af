-- A list that is gone through from the front.
use Rattle.std.proofs.Common.{◌≡◌, ℕ, zero, suc, ◌+◌, ◌≤◌, List, [], ◌∷◌, length, take, drop, Some, None, ap, arith, length-drop, length-append, add-one}
use Rattle.std.specs.List.{flat_map, slice_get}
use Rattle.std.proofs.lemmas.Option.{slice_get_past}

module _ {X : Type 0} where
  pub got_past : (xs : List X) (i j : ℕ) → drop i xs ≡ [] → i ≤ j → slice_get xs j ≡ None
  got_past xs i j e h = slice_get_past xs j (omega (arith, ap length e, length-drop i xs))

  pub got_here : (xs ys : List X) (i : ℕ) (x : X) → drop i xs ≡ x ∷ ys → slice_get xs i ≡ Some x
  got_here [] ys zero x e = absurd (cc)
  got_here [] ys (suc i) x e = absurd (cc)
  got_here (z ∷ xs) ys zero x e = ap Some (cc)
  got_here (z ∷ xs) ys (suc i) x e = got_here xs ys i x e

  after : (xs ys : List X) (i : ℕ) (x : X) → drop i xs ≡ x ∷ ys → drop (suc i) xs ≡ ys
  after [] ys zero x e = absurd (cc)
  after [] ys (suc i) x e = absurd (cc)
  after (z ∷ xs) ys zero x e = cc
  after (z ∷ xs) ys (suc i) x e = after xs ys i x e

  pub left_after : (xs ys : List X) (i : ℕ) (x : X) → drop i xs ≡ x ∷ ys → drop (i + 1) xs ≡ ys
  left_after xs ys i x e = rw add-one (after xs ys i x e)

  module _ (spell : X → List ℕ) where
    passed : (xs ys : List X) (i : ℕ) (x : X) → drop i xs ≡ x ∷ ys → length (flat_map spell (take (suc i) xs)) ≡ length (flat_map spell (take i xs)) + length (spell x)
    passed [] ys zero x e = absurd (cc)
    passed [] ys (suc i) x e = absurd (cc)
    passed (z ∷ xs) ys zero x e =
        let same : z ≡ x = cc in
        omega (arith, length-append (spell z) [], ap (λ y. length (spell y)) same)
    passed (z ∷ xs) ys (suc i) x e =
        omega (arith, passed xs ys i x e, length-append (spell z) (flat_map spell (take (suc i) xs)), length-append (spell z) (flat_map spell (take i xs)))

    pub passed_after : (xs ys : List X) (i : ℕ) (x : X) → drop i xs ≡ x ∷ ys → length (flat_map spell (take (i + 1) xs)) ≡ length (flat_map spell (take i xs)) + length (spell x)
    passed_after xs ys i x e = rw add-one (passed xs ys i x e)
