-- Two lists of as many numbers are equal where no lane of one differs from the other's.
use Rattle.std.proofs.Common.{◌≡◌, ◌+◌, ◌*◌, Bool, true, false, List, ℕ, [], ◌∷◌, cond, length, not, nat_eq, ◌&&◌, refl, ap, ◌∙◌, arith}
use Rattle.std.specs.Prelude.{bytes_eq}
use Rattle.std.specs.Simd.Lanes.{mask_l, zip2}
use Rattle.std.proofs.lemmas.Bool.Decides.{nat_tests}

abbrev pub differ : ℕ → ℕ → Bool
differ a b = not (nat_eq a b)

one_more : (same : Bool) (rest : ℕ) → nat_eq (cond (not same) 1 0 + 2 * rest) 0 ≡ (same && nat_eq rest 0)
one_more true rest = grind (arith, nat_tests)
one_more false rest = grind (arith, nat_tests)

pub none_differs : (xs ys : List ℕ) → length xs ≡ length ys → nat_eq (mask_l (zip2 differ xs ys)) 0 ≡ bytes_eq xs ys
none_differs [] [] e = refl
none_differs [] (y ∷ ys) e = absurd (omega arith)
none_differs (x ∷ xs) [] e = absurd (omega arith)
none_differs (x ∷ xs) (y ∷ ys) e =
    one_more (nat_eq x y) (mask_l (zip2 differ xs ys)) ∙ ap (λ t. nat_eq x y && t) (none_differs xs ys (omega arith))

pub not_not : (b : Bool) → not (not b) ≡ b
not_not true = refl
not_not false = refl
