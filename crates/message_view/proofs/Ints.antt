-- Numbers at the front of some bytes.
use Rattle.std.proofs.Common.{◌≡◌, ℕ, ◌-◌, ◌^◌, ◌<◌, ◌≤◌, List, [], ◌∷◌, length, take, drop, ◌∙◌, Ok, Err, refl, ap, arith, length-drop}
use Rattle.std.proofs.lemmas.List.{take_all}
use Rattle.std.specs.Int.{w16, w32, cast_signed, cast_unsigned}
use Rattle.std.proofs.lemmas.Int.{of_z-to_z}
use Rattle.byteorder.specs.Endian.{big_number}
use Rattle.message_view.specs.declared.ViewError.TheVariants.{TooShort}
use Rattle.message_view.specs.Reading.{int16_at, int32_at}

pub int16_at_whole : (bytes : List ℕ) → 2 ≤ length bytes → int16_at bytes ≡ Ok (big_number 2 bytes, drop 2 bytes)
unfolding int16_at
int16_at_whole (a ∷ b ∷ bytes) h = ap (λ n. Ok (n, bytes)) (omega arith)
int16_at_whole [] h = absurd (omega arith)
int16_at_whole (_ ∷ []) h = absurd (omega arith)

-- a slice up to the end
pub to_end : (k : ℕ) (bytes : List ℕ) → take (length bytes - k) (drop k bytes) ≡ drop k bytes
to_end k bytes = take_all _ _ (omega (arith, length-drop k bytes))

pub int16_at_short : (bytes : List ℕ) → length bytes < 2 → int16_at bytes ≡ Err TooShort
unfolding int16_at
int16_at_short (a ∷ b ∷ bytes) h = absurd (omega arith)
int16_at_short [] h = refl
int16_at_short (_ ∷ []) h = refl

pub int32_at_whole : (bytes : List ℕ) → 4 ≤ length bytes → int32_at bytes ≡ Ok (big_number 4 bytes, drop 4 bytes)
unfolding int32_at
int32_at_whole (a ∷ b ∷ c ∷ d ∷ bytes) h = ap (λ n. Ok (n, bytes)) (omega arith)
int32_at_whole [] h = absurd (omega arith)
int32_at_whole (_ ∷ []) h = absurd (omega arith)
int32_at_whole (_ ∷ _ ∷ []) h = absurd (omega arith)
int32_at_whole (_ ∷ _ ∷ _ ∷ []) h = absurd (omega arith)

pub int32_at_short : (bytes : List ℕ) → length bytes < 4 → int32_at bytes ≡ Err TooShort
unfolding int32_at
int32_at_short (a ∷ b ∷ c ∷ d ∷ bytes) h = absurd (omega arith)
int32_at_short [] h = refl
int32_at_short (_ ∷ []) h = refl
int32_at_short (_ ∷ _ ∷ []) h = refl
int32_at_short (_ ∷ _ ∷ _ ∷ []) h = refl

pub int16_at_long : (bytes : List ℕ) (n : ℕ) → 2 ≤ length bytes → n ≡ big_number 2 bytes → int16_at bytes ≡ Ok (n, drop 2 bytes)
int16_at_long bytes n h e = int16_at_whole bytes h ∙ rw e refl

pub int32_at_long : (bytes : List ℕ) (n : ℕ) → 4 ≤ length bytes → n ≡ big_number 4 bytes → int32_at bytes ≡ Ok (n, drop 4 bytes)
int32_at_long bytes n h e = int32_at_whole bytes h ∙ rw e refl

pub signed_back : (n : ℕ) → n < 2 ^ 32 → cast_unsigned w32 (cast_signed w32 n) ≡ n
signed_back n h = of_z-to_z w32 n h

pub signed_back_16 : (n : ℕ) → n < 2 ^ 16 → cast_unsigned w16 (cast_signed w16 n) ≡ n
signed_back_16 n h = of_z-to_z w16 n h
