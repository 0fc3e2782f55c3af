-- A key is lawful whose parameters were put one by one from lawful pairs.
use Rattle.std.proofs.Common.{◌≡◌, ap, ℕ, zero, suc, ◌+◌, ◌<◌, List, [], ◌∷◌, length, Result, Ok, Err, refl, subst, Bool, true, false, arith}
use Rattle.std.specs.Str.{str_to_ascii_lowercase}
use Rattle.std.specs.Prelude.{cond, if◌then◌else◌, ◌==◌, nat_lt, fold, bytes_eq, codes}
use Rattle.std.specs.List.{AllByRecursion}
use Rattle.message_view.specs.Bodies.{HasNoZero}
use Rattle.start_keys.specs.declared.cause.Cause.{Cause}
use Rattle.start_keys.specs.Lawful.{is_before, is_identity, AreOrdered, IsLawfulParameter, IsLawfulKey}
use Rattle.start_keys.specs.State.{StartKeyOf}
use Rattle.start_keys.specs.StartPairs.{Text, Pair, value_after, value_of, user_in, database_in, put_here, put, folded}
use Rattle.start_keys.specs.StubKeys.{put_parameter, stub_parameters, stub}
use Rattle.key_laws.specs.Keys.{ArePairs, StubKeysAreLawful}
use Rattle.key_laws.proofs.Choices.{choose}
use Rattle.key_laws.proofs.Ordering.{put-ordered}

-- ---- names in lower case

lower-plain : (t : Text) → HasNoZero t → HasNoZero (str_to_ascii_lowercase t)
lower-plain [] h = tt
lower-plain (b ∷ t) h = (choose-cond (λ (n : ℕ). 0 < n) (nat_lt b 65) b (cond (nat_lt b 91) (b + 32) b) h.0 (choose-cond (λ (n : ℕ). 0 < n) (nat_lt b 91) (b + 32) b (omega (arith, h.0)) h.0), lower-plain t h.1)
  where
    choose-cond : (P : ℕ → Type 0) (c : Bool) (x y : ℕ) → P x → P y → P (cond c x y)
    choose-cond P true x y f g = f
    choose-cond P false x y f g = g

lower-length : (t : Text) → length (str_to_ascii_lowercase t) ≡ length t
lower-length [] = refl
lower-length (b ∷ t) = ap suc (lower-length t)

pub folded-lawful : (p : Pair) → IsLawfulParameter p → IsLawfulParameter (folded p)
folded-lawful p h = (record { some = (let e = lower-length p.0 in let l = h.0.some in omega (arith, e, l)); name = lower-plain p.0 h.0.name; value = h.0.value }, h.1)

-- ---- parameters

pub put-all : (P : Pair → Type 0) (p : Pair) (kept : List Pair) → P p → AllByRecursion P kept → AllByRecursion P (put p kept)
put-all P p [] h k = (h, tt)
put-all P p (q ∷ qs) h k =
    choose (AllByRecursion P) (is_before q.0 p.0) (q ∷ put p qs) (put_here p q qs) (λ e. (k.0, put-all P p qs h k.1))
    (λ e. choose (AllByRecursion P) (bytes_eq q.0 p.0) (p ∷ qs) (p ∷ q ∷ qs) (λ f. (h, k.1)) (λ f. (h, k)))

-- what is kept by each step is kept
pub fold-keeps : (K : List Pair → Type 0) (P : Pair → Type 0) (step : List Pair → Pair → List Pair) → ((kept : List Pair) (p : Pair) → P p → K kept → K (step kept p)) → (kept pairs : List Pair) → K kept → AllByRecursion P pairs → K (fold step kept pairs)
fold-keeps K P step f kept [] h k = h
fold-keeps K P step f kept (p ∷ ps) h k = fold-keeps K P step f (step kept p) ps (f kept p k.0 h) k.1

-- lawful parameters in order
abbrev pub AreKept : List Pair → Type 0
AreKept ps = ArePairs ps × AreOrdered ps

pub put-kept : (p : Pair) (kept : List Pair) → IsLawfulParameter p → AreKept kept → AreKept (put (folded p) kept)
put-kept p kept h k = (put-all IsLawfulParameter (folded p) kept (folded-lawful p h) k.0, put-ordered (folded p) kept k.1)

stub-step : (kept : List Pair) (p : Pair) → IsLawfulParameter p → AreKept kept → AreKept (put_parameter kept p)
stub-step kept p h k = choose AreKept (is_identity p.0) kept (put (folded p) kept) (λ e. k) (λ e. put-kept p kept h k)

-- ---- user and database

pub value-plain : (found name : Text) (pairs : List Pair) → HasNoZero found → ArePairs pairs → HasNoZero (value_after found name pairs)
value-plain found name [] h k = h
value-plain found name (p ∷ ps) h k = value-plain (if bytes_eq p.0 name then p.1 else found) name ps (choose HasNoZero (bytes_eq p.0 name) p.1 found (λ e. k.0.0.value) (λ e. h)) k.1

pub some-text : (n : ℕ) → (n == 0) ≡ false → 0 < n
some-text zero e = absurd cc
some-text (suc n) e = omega arith

pub user-plain : (pairs : List Pair) → ArePairs pairs → HasNoZero (user_in pairs)
user-plain pairs h = value-plain [] (codes "user") pairs tt h

pub database-plain : (pairs : List Pair) → ArePairs pairs → HasNoZero (database_in pairs)
database-plain pairs h =
    let d = value_of (codes "database") pairs in
    choose HasNoZero (length d == 0) (user_in pairs) d (λ e. user-plain pairs h) (λ e. value-plain [] (codes "database") pairs tt h)

abbrev IsSome : Text → Type 0
IsSome t = 0 < length t

pub database-some : (pairs : List Pair) → 0 < length (user_in pairs) → 0 < length (database_in pairs)
database-some pairs h =
    let d = value_of (codes "database") pairs in
    choose IsSome (length d == 0) (user_in pairs) d (λ e. h) (λ e. some-text (length d) e)

-- ---- the key

stub-made : (pairs : List Pair) → 0 < length (user_in pairs) → ArePairs pairs → IsLawfulKey (stub (database_in pairs) (user_in pairs) (stub_parameters pairs))
stub-made pairs u h =
    let k : AreKept (stub_parameters pairs) = fold-keeps AreKept IsLawfulParameter put_parameter stub-step [] pairs (tt, tt) h in
    record {
      row = database-plain pairs h;
      dbname = database-plain pairs h;
      user = user-plain pairs h;
      has_user = u;
      has_dbname = database-some pairs u;
      parameters = k.0;
      ordered = k.1;
    }

abbrev IsLawful : Result StartKeyOf Cause → Type 0
IsLawful (Ok key) = IsLawfulKey key
IsLawful (Err c) = Unit {0}

pub stub-lawful : StubKeysAreLawful
stub-lawful pairs key h e = subst IsLawful e (choose IsLawful (length (user_in pairs) == 0) _ _ (λ z. tt) (λ z. stub-made pairs (some-text (length (user_in pairs)) z) h))
