-- Whose client it is, by the input that stands before what it was given.
use Rattle.std.proofs.Common.{◌≡◌, ℕ, List, [], ◌∷◌, ◌++◌, refl, ◌∙◌, arith, append_assoc, length}
use Rattle.memory_ends.specs.Clients.{given_with}

-- two lists that begin with lists of one length
pub record Apart (a b x y : List ℕ) : Type 0 where
  pub front : a ≡ b
  pub back : x ≡ y

more-apart : (c d : ℕ) (a b x y : List ℕ) → c ≡ d → Apart a b x y → Apart (c ∷ a) (d ∷ b) x y
more-apart c d a b x y e p = record { front = rw (e, p.front) refl; back = p.back }

apart : (a b x y : List ℕ) → length a ≡ length b → a ++ x ≡ b ++ y → Apart a b x y
apart [] [] x y n e = record { front = refl; back = e }
apart [] (d ∷ b) x y n e = absurd (omega (arith, n))
apart (c ∷ a) [] x y n e = absurd (omega (arith, n))
apart (c ∷ a) (d ∷ b) x y n e =
    let heads : c ≡ d = cc in
    let tails : a ++ x ≡ b ++ y = cc in
    more-apart c d a b x y heads (apart a b x y (omega (arith, n)) tails)

-- a client that was given since what a client with this input was, has this input, and was given so much
pub whose : (input out bytes since : List ℕ) → given_with input out ≡ given_with bytes [] ++ since → Apart input bytes out since
whose input out bytes since e =
    let sizes : length input ≡ length bytes = cc in
    let rests : input ++ out ≡ (bytes ++ []) ++ since = cc in
    apart input bytes out since sizes (rests ∙ append_assoc bytes [] since)
