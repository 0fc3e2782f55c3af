-- Numbers and their four bytes.
use Rattle.std.proofs.Common.{◌≡◌, ℕ, zero, suc, ◌^◌, ◌<◌, [], ◌∷◌, get_or, refl, arith}
use Rattle.std.specs.Int.{w32, to_be_bytes}
use Rattle.std.proofs.lemmas.Nat.{from_be_bytes-to_be_bytes_4, be_bytes_4}
use Rattle.frame_view.specs.Frames.{number}

-- a number's four bytes give it back
pub number-bytes : (n : ℕ) → n < 2 ^ 32 → number (get_or (to_be_bytes w32 n) 0 0) (get_or (to_be_bytes w32 n) 1 0) (get_or (to_be_bytes w32 n) 2 0) (get_or (to_be_bytes w32 n) 3 0) ≡ n
number-bytes n lt = omega (arith, from_be_bytes-to_be_bytes_4 n lt)

four-fit : (a b c d : ℕ) → a < 256 → b < 256 → c < 256 → d < 256 → (i : ℕ) → get_or (a ∷ b ∷ c ∷ d ∷ []) i 0 < 256
four-fit a b c d p q r s zero = p
four-fit a b c d p q r s (suc zero) = q
four-fit a b c d p q r s (suc (suc zero)) = r
four-fit a b c d p q r s (suc (suc (suc zero))) = s
four-fit a b c d p q r s (suc (suc (suc (suc i)))) = omega arith

-- four bytes are those of their number
pub bytes-number : (n a b c d : ℕ) → n ≡ number a b c d → a < 256 → b < 256 → c < 256 → d < 256 → to_be_bytes w32 n ≡ a ∷ b ∷ c ∷ d ∷ []
bytes-number n a b c d e p q r s = be_bytes_4 (a ∷ b ∷ c ∷ d ∷ []) n refl (four-fit a b c d p q r s) (omega (arith, e))
