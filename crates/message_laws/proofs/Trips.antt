-- Parts that are spelled are read again, and what is read is spelled so.
use Rattle.std.proofs.Common.{◌≡◌, ◌<◌, ◌+◌, ◌^◌, ℕ, zero, suc, List, [], ◌∷◌, ◌++◌, length, get_or, take, drop, Option, Some, None, Ok, Err, refl, ap, sym, ◌∙◌, Bool, true, false, arith, length-append, length-take, subst}
use Rattle.std.specs.Prelude.{nat_lt, ◌==◌, if◌then◌else◌}
use Rattle.std.proofs.lemmas.Nat.{from_be_bytes-to_be_bytes_2, from_be_bytes-to_be_bytes_4, be_bytes_2, be_bytes_4}
use Rattle.std.proofs.lemmas.List.{get_or-append-add, take-append-drop}
use Rattle.std.proofs.lemmas.Bool.{ne_eqb, eqb-true, eqb-false, ltb-true, ltb-false, lt-ltb, le-ltb}
use Rattle.std.proofs.Math.Seq.{take-append_seam, drop-append_seam}
use Rattle.frame_view.specs.Frames.{AreBytes}
use Rattle.message_view.specs.declared.ViewError.TheVariants.{TooShort, BadLength}
use Rattle.message_view.specs.Bodies.{Text, HasNoZero, is_natural32, minus_one32, text, int16, int32, value}
use Rattle.message_view.specs.Spelled.{Fits16, Fits32, FitsValue}
use Rattle.message_view.specs.Reading.{Part, ◌>>=◌, with_first, text_at, int16_at, int32_at, bytes_at, value_of_length, value_at}
use Rattle.message_view.proofs.Pieces.{same_rest, same_part, bind-inv}

pub bytes_after : (front rest : List ℕ) → AreBytes (front ++ rest) → AreBytes rest
bytes_after front rest fits i = omega (arith, fits (length front + i), get_or-append-add front rest i 0)

pub bytes_behind : (bytes front rest : List ℕ) → bytes ≡ front ++ rest → AreBytes bytes → AreBytes rest
bytes_behind bytes front rest e fits = bytes_after front rest (subst AreBytes e fits)

-- ---- texts

pub text_reads : (t rest : List ℕ) → HasNoZero t → text_at (text t ++ rest) ≡ Ok (t, rest)
unfolding text_at
text_reads [] rest h = refl
text_reads (b ∷ t) rest h =
    let z : (b == 0) ≡ false = ne_eqb b 0 (λ e. omega (arith, h.0, e)) in
    let more = text_reads t rest h.1 in
    rw (z, more) refl

abbrev ends : List ℕ → Part Text
ends bytes = Ok ([], bytes)

spelled-first : (b : ℕ) (bytes rest t : List ℕ) (z : Bool) (others : Part Text) → (b == 0) ≡ z → text_at bytes ≡ others
    → ((r u : List ℕ) → text_at bytes ≡ Ok (u, r) → (bytes ≡ text u ++ r) × HasNoZero u)
    → (if z then ends bytes else with_first b others) ≡ Ok (t, rest) → (b ∷ bytes ≡ text t ++ rest) × HasNoZero t
spelled-first b bytes rest t true others z is more e = rw (eqb-true b 0 z, same_rest e, ← (same_part e)) (refl, tt)
spelled-first b bytes rest t false (Err f) z is more e = absurd (cc)
spelled-first b bytes rest t false (Ok o) z is more e =
    let inner = more o.1 o.0 is in
    let some : 0 < b = omega (arith, eqb-false b 0 z) in
    rw (← (same_part e), ← (same_rest e)) (ap (λ (x : List ℕ). b ∷ x) inner.0, (some, inner.1))

pub text_spelled : (bytes t rest : List ℕ) → text_at bytes ≡ Ok (t, rest) → (bytes ≡ text t ++ rest) × HasNoZero t
unfolding text_at
text_spelled [] t rest e = absurd (cc)
text_spelled (b ∷ bytes) t rest e = spelled-first b bytes rest t (b == 0) (text_at bytes) refl refl (λ r u h. text_spelled bytes u r h) e

-- ---- numbers

pub int16_reads : (n : ℕ) (rest : List ℕ) → Fits16 n → int16_at (int16 n ++ rest) ≡ Ok (n, rest)
unfolding int16_at
int16_reads n rest lt = ap (λ (k : ℕ). Ok (k, rest)) (omega (arith, from_be_bytes-to_be_bytes_2 n lt))

pub int32_reads : (n : ℕ) (rest : List ℕ) → Fits32 n → int32_at (int32 n ++ rest) ≡ Ok (n, rest)
unfolding int32_at
int32_reads n rest lt = ap (λ (k : ℕ). Ok (k, rest)) (omega (arith, from_be_bytes-to_be_bytes_4 n lt))

two-fit : (a b : ℕ) → a < 256 → b < 256 → (i : ℕ) → get_or (a ∷ b ∷ []) i 0 < 256
two-fit a b p q zero = p
two-fit a b p q (suc zero) = q
two-fit a b p q (suc (suc i)) = omega arith

four-fit : (a b c d : ℕ) → a < 256 → b < 256 → c < 256 → d < 256 → (i : ℕ) → get_or (a ∷ b ∷ c ∷ d ∷ []) i 0 < 256
four-fit a b c d p q r s zero = p
four-fit a b c d p q r s (suc zero) = q
four-fit a b c d p q r s (suc (suc zero)) = r
four-fit a b c d p q r s (suc (suc (suc zero))) = s
four-fit a b c d p q r s (suc (suc (suc (suc i)))) = omega arith

pub int16_spelled : (bytes : List ℕ) (n : ℕ) (rest : List ℕ) → AreBytes bytes → int16_at bytes ≡ Ok (n, rest) → (bytes ≡ int16 n ++ rest) × Fits16 n
unfolding int16_at
int16_spelled (a ∷ b ∷ bytes) n rest fits e =
    let is = same_part e in
    let two : int16 n ≡ a ∷ b ∷ [] = be_bytes_2 (a ∷ b ∷ []) n refl (two-fit a b (fits 0) (fits 1)) (omega (arith, is)) in
    (ap (λ (x : List ℕ). a ∷ b ∷ x) (same_rest e) ∙ ap (λ (x : List ℕ). x ++ rest) (sym two), omega (arith, is, fits 0, fits 1))
int16_spelled [] n rest fits e = absurd (cc)
int16_spelled (_ ∷ []) n rest fits e = absurd (cc)

pub int32_spelled : (bytes : List ℕ) (n : ℕ) (rest : List ℕ) → AreBytes bytes → int32_at bytes ≡ Ok (n, rest) → (bytes ≡ int32 n ++ rest) × Fits32 n
unfolding int32_at
int32_spelled (a ∷ b ∷ c ∷ d ∷ bytes) n rest fits e =
    let is = same_part e in
    let four : int32 n ≡ a ∷ b ∷ c ∷ d ∷ [] = be_bytes_4 (a ∷ b ∷ c ∷ d ∷ []) n refl (four-fit a b c d (fits 0) (fits 1) (fits 2) (fits 3)) (omega (arith, is)) in
    (ap (λ (x : List ℕ). a ∷ b ∷ c ∷ d ∷ x) (same_rest e) ∙ ap (λ (x : List ℕ). x ++ rest) (sym four), omega (arith, is, fits 0, fits 1, fits 2, fits 3))
int32_spelled [] n rest fits e = absurd (cc)
int32_spelled (_ ∷ []) n rest fits e = absurd (cc)
int32_spelled (_ ∷ _ ∷ []) n rest fits e = absurd (cc)
int32_spelled (_ ∷ _ ∷ _ ∷ []) n rest fits e = absurd (cc)

-- ---- values

length-reads : (t rest : List ℕ) → length t < 2 ^ 31 → value_of_length (length t, t ++ rest) ≡ Ok (Some t, rest)
length-reads t rest lt =
    let low : is_natural32 (length t) ≡ true = lt-ltb _ _ (omega arith) in
    let enough : nat_lt (length (t ++ rest)) (length t) ≡ false = le-ltb _ _ (omega (arith, length-append t rest)) in
    rw (low, enough, take-append_seam t rest, drop-append_seam t rest) refl

pub value_reads : (v : Option Text) (rest : List ℕ) → FitsValue v → value_at (value v ++ rest) ≡ Ok (v, rest)
unfolding value_at int32_at
value_reads None rest h = refl
value_reads (Some t) rest h = ap (λ (p : Part ℕ). p >>= value_of_length) (int32_reads (length t) (t ++ rest) (omega arith)) ∙ length-reads t rest h

abbrev some-value : ℕ → List ℕ → Part (Option Text)
some-value n bytes = Ok (Some (take n bytes), drop n bytes)

abbrev no-value : List ℕ → Part (Option Text)
no-value bytes = Ok (None, bytes)

bytes-spelled : (n : ℕ) (bytes rest : List ℕ) (v : Option Text) (short : Bool) → n < 2 ^ 31 → nat_lt (length bytes) n ≡ short → (if short then Err TooShort else some-value n bytes) ≡ Ok (v, rest)
    → (int32 n ++ bytes ≡ value v ++ rest) × FitsValue v
bytes-spelled n bytes rest v true low s e = absurd (cc)
bytes-spelled n bytes rest v false low s e =
    let size : length (take n bytes) ≡ n = omega (arith, length-take n bytes, ltb-false _ _ s) in
    let small : length (take n bytes) < 2 ^ 31 = omega arith in
    let whole : int32 n ++ bytes ≡ value (Some (take n bytes)) ++ drop n bytes =
    ap (λ (x : List ℕ). int32 n ++ x) (sym (take-append-drop n bytes)) ∙ ap (λ (k : ℕ). int32 k ++ take n bytes ++ drop n bytes) (sym size) in
    rw (← (same_part e), ← (same_rest e)) (whole, small)

value-spelled : (n : ℕ) (bytes rest : List ℕ) (v : Option Text) (low null : Bool) → is_natural32 n ≡ low → (n == minus_one32) ≡ null
    → (if low then bytes_at n bytes else (if null then no-value bytes else Err BadLength)) ≡ Ok (v, rest)
    → (int32 n ++ bytes ≡ value v ++ rest) × FitsValue v
value-spelled n bytes rest v true null l z e = bytes-spelled n bytes rest v (nat_lt (length bytes) n) (ltb-true _ _ l) refl e
value-spelled n bytes rest v false true l z e = rw (← (same_part e), ← (same_rest e), eqb-true n minus_one32 z) (refl, tt)
value-spelled n bytes rest v false false l z e = absurd (cc)

pub value_spelled : (bytes : List ℕ) (v : Option Text) (rest : List ℕ) → AreBytes bytes → value_at bytes ≡ Ok (v, rest) → (bytes ≡ value v ++ rest) × FitsValue v
unfolding value_at
value_spelled bytes v rest fits e =
    let size = bind-inv (int32_at bytes) value_of_length (v, rest) e in
    let head = int32_spelled bytes size.0.0 size.0.1 fits size.1 in
    let inner = value-spelled size.0.0 size.0.1 rest v (is_natural32 size.0.0) (size.0.0 == minus_one32) refl refl size.2 in
    (head.0 ∙ inner.0, inner.1)
