-- What the machine's laws need of the readers of bodies.
use Rattle.std.proofs.Common.{◌≡◌, ℕ, zero, suc, ◌+◌, ◌<◌, ◌≤◌, List, [], ◌∷◌, ◌++◌, length, Result, Ok, Err, refl, ap, ◌∙◌, true, arith, length-append, ltb-true}
use Rattle.std.specs.Prelude.{codes, nat_lt}
use Rattle.std.specs.List.{AllByRecursion, list_all}
use Rattle.frame_view.specs.Frames.{AreBytes}
use Rattle.message_view.specs.declared.ViewError.{ViewError}
use Rattle.message_view.specs.Bodies.{Text, text, Parse, HasNoZero, numbers32, status_body, parse_body}
use Rattle.message_view.specs.Reading.{text_at, parse_at, status_at, query_of, parse_of, status_of}
use Rattle.message_view.specs.Spelled.{FitsParse, FitsStatus}
use Rattle.session_values.proofs.Alls.{all-as, list_all-each}
use Rattle.message_laws.proofs.Alone.{alone_reader}
use Rattle.message_laws.proofs.ByteTrips.{text_alone}
use Rattle.message_laws.proofs.PartTrips.{status_reads, status_spelled, parse_reads, parse_spelled}

pub read-discard_all : query_of (text (codes "DISCARD ALL")) ≡ Ok (codes "DISCARD ALL")
unfolding query_of text_at
read-discard_all = refl

pub read-status : (n v : Text) → HasNoZero n → HasNoZero v → status_of (status_body n v) ≡ Ok (n, v)
unfolding status_of
read-status n v h k = (alone_reader status_at (λ x. status_body x.0 x.1) FitsStatus status_reads status_spelled).again (n, v) (h, k)

by-place : (bytes : List ℕ) → AllByRecursion (λ b. b < 256) bytes → AreBytes bytes
by-place [] h i = omega arith
by-place (b ∷ bytes) h zero = h.0
by-place (b ∷ bytes) h (suc i) = by-place bytes h.1 i

-- bytes that are known are told to be bytes by a test
pub tested_bytes : (bytes : List ℕ) → list_all (λ b. nat_lt b 256) bytes ≡ true → AreBytes bytes
tested_bytes bytes h = by-place bytes (all-as (λ b. nat_lt b 256 ≡ true) (λ b. b < 256) (λ (b : ℕ) k. ltb-true b 256 k) bytes (list_all-each (λ b. nat_lt b 256) bytes h))

-- A text has no zero byte, and fills the body with the zero byte after it.
abbrev pub QueryTold : List ℕ → Result Text ViewError → Type 0
QueryTold body (Ok t) = HasNoZero t × (length body ≡ length t + 1)
QueryTold body (Err e) = Unit {0}

pub query-told : (body : List ℕ) → AreBytes body → QueryTold body (query_of body)
unfolding query_of
query-told body b = by_result (query_of body) refl
  where
    by_result : (r : Result Text ViewError) → query_of body ≡ r → QueryTold body r
    by_result (Ok t) e = let p = text_alone body t b e in (p.0, ap length p.1 ∙ length-append t (0 ∷ []))
    by_result (Err v) e = tt

-- A Parse's text has no zero byte, and is shorter than the body; the oids are counted by two bytes.
abbrev pub ParseTold : List ℕ → Result Parse ViewError → Type 0
ParseTold body (Ok p) = HasNoZero p.query × (length p.query + 4 ≤ length body) × (length p.oids ≤ 65535)
ParseTold body (Err e) = Unit {0}

parse-length : (p : Parse) → length p.query + 4 ≤ length (text p.name ++ text p.query ++ numbers32 p.oids)
parse-length p =
    omega (arith, length-append (text p.name ++ text p.query) (numbers32 p.oids), length-append (text p.name) (text p.query), length-append p.name (0 ∷ []), length-append p.query (0 ∷ []))

pub parse-told : (body : List ℕ) → AreBytes body → ParseTold body (parse_of body)
unfolding parse_of
parse-told body b = by_result (parse_of body) refl
  where
    by_result : (r : Result Parse ViewError) → parse_of body ≡ r → ParseTold body r
    by_result (Ok p) e =
        let told = (alone_reader parse_at parse_body FitsParse parse_reads parse_spelled).only body p b e in
        (told.0.query, (let l : length p.query + 4 ≤ length (parse_body p) = parse-length p in omega (arith, l, ap length told.1)), omega (arith, told.0.oids.count))
    by_result (Err v) e = tt
