-- The pairs of a StartupMessage: names and values end at their zero bytes.
use Rattle.std.proofs.Common.{◌≡◌, ℕ, zero, suc, ◌+◌, ◌<◌, ◌≤◌, List, [], ◌∷◌, length, Option, Some, None, Result, Ok, Err, subst, false, arith}
use Rattle.std.specs.Prelude.{◌==◌}
use Rattle.std.specs.List.{AllByRecursion}
use Rattle.message_view.specs.declared.ViewError.{ViewError}
use Rattle.message_view.specs.Bodies.{HasNoZero}
use Rattle.message_view.specs.Reading.{Part, ◌>>=◌, text_at, with_first, pair_named, pair_at, and_more, list_until, ended_at, at_end, alone, startup_of}
use Rattle.start_keys.specs.Lawful.{IsLawfulParameter}
use Rattle.start_keys.specs.StartPairs.{Text, Pair}
use Rattle.key_laws.specs.Keys.{ArePairs, PairsAreLawful}
use Rattle.key_laws.proofs.Choices.{choose}

abbrev IsRead : ℕ → Part Text → Type 0
IsRead n (Ok x) = HasNoZero x.0 × (length x.0 + length x.1 < n)
IsRead n (Err e) = Unit {0}

with_first-read : (b n : ℕ) (part : Part Text) → 0 < b → IsRead n part → IsRead (suc n) (with_first b part)
with_first-read b n (Ok x) h k = ((h, k.0), omega (arith, k.1))
with_first-read b n (Err e) h k = tt

positive : (b : ℕ) → (b == 0) ≡ false → 0 < b
positive zero e = absurd cc
positive (suc b) e = omega arith

text-read : (bytes : List ℕ) → IsRead (suc (length bytes)) (text_at bytes)
unfolding text_at
text-read [] = tt
text-read (b ∷ bytes) =
    choose (IsRead (suc (suc (length bytes)))) (b == 0) (Ok ([], bytes)) (with_first b (text_at bytes)) (λ e. (tt, omega arith))
    (λ e. with_first-read b (suc (length bytes)) (text_at bytes) (positive b e) (text-read bytes))

abbrev PairRead : Part (Option Pair) → Type 0
PairRead (Ok (None, rest)) = length rest ≤ 10000
PairRead (Ok (Some p, rest)) = IsLawfulParameter p × (length rest ≤ 10000)
PairRead (Err e) = Unit {0}

setting-read : (name : Text) (n : ℕ) (part : Part Text) → (0 < length name) × HasNoZero name → n ≤ 10001 → IsRead n part → PairRead (part >>= λ setting. Ok (Some (name, setting.0), setting.1))
setting-read name n (Ok x) h low k = ((record { some = h.0; name = h.1; value = k.0 }, omega (arith, k.1)), omega (arith, k.1))
setting-read name n (Err e) h low k = tt

named-read : (name : Text) (bytes : List ℕ) → HasNoZero name → length bytes ≤ 10000 → PairRead (pair_named name bytes)
named-read [] bytes h low = low
named-read (b ∷ name) bytes h low = setting-read (b ∷ name) (suc (length bytes)) (text_at bytes) (omega arith, h) (omega (arith, low)) (text-read bytes)

name-read : (n : ℕ) (part : Part Text) → n ≤ 10001 → IsRead n part → PairRead (part >>= λ name. pair_named name.0 name.1)
name-read n (Ok x) low k = named-read x.0 x.1 k.0 (omega (arith, k.1))
name-read n (Err e) low k = tt

pair-read : (bytes : List ℕ) → length bytes ≤ 10000 → PairRead (pair_at bytes)
unfolding pair_at
pair-read bytes low = name-read (suc (length bytes)) (text_at bytes) (omega (arith, low)) (text-read bytes)

abbrev PairsRead : Part (List Pair) → Type 0
PairsRead (Ok x) = AllByRecursion IsLawfulParameter x.0
PairsRead (Err e) = Unit {0}

before-read : (p : Pair) (part : Part (List Pair)) → IsLawfulParameter p → PairsRead part → PairsRead (part >>= λ others. Ok (p ∷ others.0, others.1))
before-read p (Ok x) h k = (h, k)
before-read p (Err e) h k = tt

more-read : (part : Part (Option Pair)) (more : List ℕ → Part (List Pair)) → ((rest : List ℕ) → length rest ≤ 10000 → PairsRead (more rest)) → PairRead part → PairsRead (part >>= λ x. and_more x.0 x.1 more)
more-read (Ok (None, rest)) more f h = tt
more-read (Ok (Some p, rest)) more f h = before-read p (more rest) h.0 (f rest h.1)
more-read (Err e) more f h = tt

pairs-read : (n : ℕ) (bytes : List ℕ) → length bytes ≤ 10000 → PairsRead (list_until pair_at n bytes)
unfolding list_until
pairs-read zero bytes low = tt
pairs-read (suc n) bytes low = more-read (pair_at bytes) (list_until pair_at n) (λ rest h. pairs-read n rest h) (pair-read bytes low)

abbrev AreRead : Result (List Pair) ViewError → Type 0
AreRead (Ok pairs) = ArePairs pairs
AreRead (Err e) = Unit {0}

end-read : (pairs : List Pair) (rest : List ℕ) → AllByRecursion IsLawfulParameter pairs → AreRead (at_end pairs rest)
end-read pairs [] h = h
end-read pairs (b ∷ rest) h = tt

alone-read : (part : Part (List Pair)) → PairsRead part → AreRead (alone part)
alone-read (Ok x) h = end-read x.0 x.1 h
alone-read (Err e) h = tt

startup-read : (body : List ℕ) → length body ≤ 10000 → AreRead (startup_of body)
unfolding startup_of ended_at
startup-read body low = alone-read (list_until pair_at (suc (length body)) body) (pairs-read (suc (length body)) body low)

pub pairs-lawful : PairsAreLawful
pairs-lawful body pairs low e = subst AreRead e (startup-read body low)
