-- What each item of a list gives, one item after the other.
use Rattle.std.proofs.lemmas.List.{take-map}
use Rattle.std.proofs.Common.{◌≡◌, ℕ, suc, ◌+◌, ◌<◌, List, [], ◌∷◌, ◌++◌, length, get_or, take, drop, map, sym, ap, ◌∙◌, add-one, append_assoc, drop-cons}

pub mapped_step : {A B C : Type 0} (f : A → B) (h : B → C) (xs : List A) (done all : List C) (i : ℕ) (x : A) → i < length xs → x ≡ get_or xs i x → done ++ map h (map f (drop i xs)) ≡ all
    → (done ++ h (f x) ∷ []) ++ map h (map f (drop (i + 1) xs)) ≡ all
mapped_step {C = C} f h xs done all i x lt is so_far =
    let here : drop i xs ≡ x ∷ drop (suc i) xs = drop-cons xs i x lt ∙ ap (λ y. y ∷ drop (suc i) xs) (sym is) in
    rw (add-one i) (append_assoc done (h (f x) ∷ []) (map h (map f (drop (suc i) xs))) ∙ ap (λ ys. done ++ map h (map f ys)) (sym here) ∙ so_far)

-- the first of what each item gives
pub take_mapped : {A B : Type 0} (f : A → B) (n : ℕ) (xs : List A) → map f (take n xs) ≡ take n (map f xs)
take_mapped f n xs = sym (take-map f n xs)
