-- What is made of the first items of a list, item by item.
use Rattle.std.proofs.Common.{◌≡◌, ℕ, zero, suc, List, [], ◌∷◌, ◌++◌, Some, None, map, take, slice_get, ap, refl}

-- with the next item
pub one_more : {A B : Type 0} (f : A → B) (xs : List A) (n : ℕ) (x : A) → slice_get xs n ≡ Some x → map f (take n xs) ++ f x ∷ [] ≡ map f (take (suc n) xs)
one_more f [] n x e = absurd (cc)
one_more f (y ∷ ys) zero x e = cc
one_more f (y ∷ ys) (suc n) x e = ap (λ (zs : List _). f y ∷ zs) (one_more f ys n x e)

-- where there is none
pub no_more : {A B : Type 0} (f : A → B) (xs : List A) (n : ℕ) → slice_get xs n ≡ None → map f (take n xs) ≡ map f xs
no_more f [] zero e = refl
no_more f [] (suc n) e = refl
no_more f (y ∷ ys) zero e = absurd (cc)
no_more f (y ∷ ys) (suc n) e = ap (λ (zs : List _). f y ∷ zs) (no_more f ys n e)
