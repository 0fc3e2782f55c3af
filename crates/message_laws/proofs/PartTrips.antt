-- Parts of several that are spelled are read again, and what is read is spelled so.
use Rattle.std.proofs.Common.{◌≡◌, ℕ, List, ◌++◌, Option, Ok, refl, ap, sym, ◌∙◌, append_assoc}
use Rattle.frame_view.specs.Frames.{AreBytes}
use Rattle.message_view.specs.Bodies.{Text, HasNoZero, text, int16, int32, value, values, numbers16, numbers32, Parse, parse_body, execute_body, status_body}
use Rattle.message_view.specs.Spelled.{Fits16, Fits32, FitsValue, FitsList, FitsParse}
use Rattle.message_view.specs.Reading.{text_at, int16_at, int32_at, value_at, counted_at, parse_at, execute_at, key_at, status_at}
use Rattle.message_view.proofs.Pieces.{bind-inv, carry}
use Rattle.message_laws.proofs.Trips.{bytes_behind, text_reads, text_spelled, int16_reads, int16_spelled, int32_reads, int32_spelled, value_reads, value_spelled}
use Rattle.message_laws.proofs.ListTrips.{counted_reads, counted_spelled}

-- the three kinds of counted lists
pub oids_read : (xs rest : List ℕ) → FitsList Fits32 xs → counted_at int32_at (numbers32 xs ++ rest) ≡ Ok (xs, rest)
oids_read xs rest h = counted_reads int32_at int32 Fits32 int32_reads int32_spelled xs rest h

pub oids_spelled : (bytes xs rest : List ℕ) → AreBytes bytes → counted_at int32_at bytes ≡ Ok (xs, rest) → (bytes ≡ numbers32 xs ++ rest) × FitsList Fits32 xs
oids_spelled bytes xs rest fits e = counted_spelled int32_at int32 Fits32 int32_reads int32_spelled bytes xs rest fits e

pub codes_read : (xs rest : List ℕ) → FitsList Fits16 xs → counted_at int16_at (numbers16 xs ++ rest) ≡ Ok (xs, rest)
codes_read xs rest h = counted_reads int16_at int16 Fits16 int16_reads int16_spelled xs rest h

pub codes_spelled : (bytes xs rest : List ℕ) → AreBytes bytes → counted_at int16_at bytes ≡ Ok (xs, rest) → (bytes ≡ numbers16 xs ++ rest) × FitsList Fits16 xs
codes_spelled bytes xs rest fits e = counted_spelled int16_at int16 Fits16 int16_reads int16_spelled bytes xs rest fits e

pub values_read : (xs : List (Option Text)) (rest : List ℕ) → FitsList FitsValue xs → counted_at value_at (values xs ++ rest) ≡ Ok (xs, rest)
values_read xs rest h = counted_reads value_at value FitsValue value_reads value_spelled xs rest h

pub values_spelled : (bytes : List ℕ) (xs : List (Option Text)) (rest : List ℕ) → AreBytes bytes → counted_at value_at bytes ≡ Ok (xs, rest) → (bytes ≡ values xs ++ rest) × FitsList FitsValue xs
values_spelled bytes xs rest fits e = counted_spelled value_at value FitsValue value_reads value_spelled bytes xs rest fits e

-- ---- two parts

pub status_reads : (x : Text × Text) (rest : List ℕ) → HasNoZero x.0 × HasNoZero x.1 → status_at (status_body x.0 x.1 ++ rest) ≡ Ok (x, rest)
status_reads x rest h = rw (append_assoc (text x.0) (text x.1) rest, text_reads x.0 (text x.1 ++ rest) h.0, text_reads x.1 rest h.1) refl

pub status_spelled : (bytes : List ℕ) (x : Text × Text) (rest : List ℕ) → AreBytes bytes → status_at bytes ≡ Ok (x, rest) → (bytes ≡ status_body x.0 x.1 ++ rest) × (HasNoZero x.0 × HasNoZero x.1)
status_spelled bytes x rest fits e =
    let a = bind-inv (text_at bytes) _ (x, rest) e in
    let b = bind-inv (text_at a.0.1) _ (x, rest) a.2 in
    let p = text_spelled bytes a.0.0 a.0.1 a.1 in
    let q = text_spelled a.0.1 b.0.0 b.0.1 b.1 in
    carry (λ (y : Text × Text) (r : List ℕ). (bytes ≡ status_body y.0 y.1 ++ r) × (HasNoZero y.0 × HasNoZero y.1)) ((a.0.0, b.0.0), b.0.1) (x, rest) b.2
    (p.0 ∙ ap (λ (r : List ℕ). text a.0.0 ++ r) q.0 ∙ sym (append_assoc (text a.0.0) (text b.0.0) b.0.1), (p.1, q.1))

pub key_reads : (x : ℕ × ℕ) (rest : List ℕ) → Fits32 x.0 × Fits32 x.1 → key_at (int32 x.0 ++ int32 x.1 ++ rest) ≡ Ok (x, rest)
key_reads x rest h = rw (int32_reads x.0 (int32 x.1 ++ rest) h.0, int32_reads x.1 rest h.1) refl

pub key_spelled : (bytes : List ℕ) (x : ℕ × ℕ) (rest : List ℕ) → AreBytes bytes → key_at bytes ≡ Ok (x, rest) → (bytes ≡ int32 x.0 ++ int32 x.1 ++ rest) × (Fits32 x.0 × Fits32 x.1)
key_spelled bytes x rest fits e =
    let a = bind-inv (int32_at bytes) _ (x, rest) e in
    let b = bind-inv (int32_at a.0.1) _ (x, rest) a.2 in
    let p = int32_spelled bytes a.0.0 a.0.1 fits a.1 in
    let q = int32_spelled a.0.1 b.0.0 b.0.1 (bytes_behind bytes (int32 a.0.0) a.0.1 p.0 fits) b.1 in
    carry (λ (y : ℕ × ℕ) (r : List ℕ). (bytes ≡ int32 y.0 ++ int32 y.1 ++ r) × (Fits32 y.0 × Fits32 y.1)) ((a.0.0, b.0.0), b.0.1) (x, rest) b.2
    (p.0 ∙ ap (λ (r : List ℕ). int32 a.0.0 ++ r) q.0, (p.1, q.1))

pub execute_reads : (x : Text × ℕ) (rest : List ℕ) → HasNoZero x.0 × Fits32 x.1 → execute_at (execute_body x.0 x.1 ++ rest) ≡ Ok (x, rest)
execute_reads x rest h = rw (append_assoc (text x.0) (int32 x.1) rest, text_reads x.0 (int32 x.1 ++ rest) h.0, int32_reads x.1 rest h.1) refl

pub execute_spelled : (bytes : List ℕ) (x : Text × ℕ) (rest : List ℕ) → AreBytes bytes → execute_at bytes ≡ Ok (x, rest) → (bytes ≡ execute_body x.0 x.1 ++ rest) × (HasNoZero x.0 × Fits32 x.1)
execute_spelled bytes x rest fits e =
    let a = bind-inv (text_at bytes) _ (x, rest) e in
    let b = bind-inv (int32_at a.0.1) _ (x, rest) a.2 in
    let p = text_spelled bytes a.0.0 a.0.1 a.1 in
    let q = int32_spelled a.0.1 b.0.0 b.0.1 (bytes_behind bytes (text a.0.0) a.0.1 p.0 fits) b.1 in
    carry (λ (y : Text × ℕ) (r : List ℕ). (bytes ≡ execute_body y.0 y.1 ++ r) × (HasNoZero y.0 × Fits32 y.1)) ((a.0.0, b.0.0), b.0.1) (x, rest) b.2
    (p.0 ∙ ap (λ (r : List ℕ). text a.0.0 ++ r) q.0 ∙ sym (append_assoc (text a.0.0) (int32 b.0.0) b.0.1), (p.1, q.1))

-- ---- Parse

pub parse_reads : (p : Parse) (rest : List ℕ) → FitsParse p → parse_at (parse_body p ++ rest) ≡ Ok (p, rest)
parse_reads p rest h =
    rw (
      append_assoc (text p.name ++ text p.query) (numbers32 p.oids) rest,
      append_assoc (text p.name) (text p.query) (numbers32 p.oids ++ rest),
      text_reads p.name (text p.query ++ (numbers32 p.oids ++ rest)) h.name,
      text_reads p.query (numbers32 p.oids ++ rest) h.query,
      oids_read p.oids rest h.oids,
    ) refl

pub parse_spelled : (bytes : List ℕ) (x : Parse) (rest : List ℕ) → AreBytes bytes → parse_at bytes ≡ Ok (x, rest) → (bytes ≡ parse_body x ++ rest) × FitsParse x
parse_spelled bytes x rest fits e =
    let a = bind-inv (text_at bytes) _ (x, rest) e in
    let b = bind-inv (text_at a.0.1) _ (x, rest) a.2 in
    let c = bind-inv (counted_at int32_at b.0.1) _ (x, rest) b.2 in
    let p = text_spelled bytes a.0.0 a.0.1 a.1 in
    let fits-a = bytes_behind bytes (text a.0.0) a.0.1 p.0 fits in
    let q = text_spelled a.0.1 b.0.0 b.0.1 b.1 in
    let fits-b = bytes_behind a.0.1 (text b.0.0) b.0.1 q.0 fits-a in
    let r = oids_spelled b.0.1 c.0.0 c.0.1 fits-b c.1 in
    let whole : text a.0.0 ++ (text b.0.0 ++ (numbers32 c.0.0 ++ c.0.1)) ≡ text a.0.0 ++ text b.0.0 ++ numbers32 c.0.0 ++ c.0.1 =
    sym (append_assoc (text a.0.0) (text b.0.0) (numbers32 c.0.0 ++ c.0.1)) ∙ sym (append_assoc (text a.0.0 ++ text b.0.0) (numbers32 c.0.0) c.0.1) in
    carry (λ (y : Parse) (z : List ℕ). (bytes ≡ parse_body y ++ z) × FitsParse y) (record { name = a.0.0; query = b.0.0; oids = c.0.0 }, c.0.1) (x, rest) c.2
    (p.0 ∙ ap (λ (z : List ℕ). text a.0.0 ++ z) (q.0 ∙ ap (λ (z : List ℕ). text b.0.0 ++ z) r.0) ∙ whole, record { name = p.1; query = q.1; oids = r.1 })
