-- Pairs and fields, spelled and read again.
use Rattle.std.proofs.Common.{◌≡◌, ◌<◌, ℕ, List, [], ◌∷◌, ◌++◌, length, Option, Some, None, Ok, refl, ap, sym, ◌∙◌, arith, append_assoc, subst, Bool, true, false}
use Rattle.std.specs.Prelude.{◌==◌, if◌then◌else◌}
use Rattle.std.specs.List.{flat_map, AllByRecursion}
use Rattle.std.proofs.lemmas.Bool.{ne_eqb, eqb-true, eqb-false}
use Rattle.frame_view.specs.Frames.{AreBytes}
use Rattle.message_view.specs.Bodies.{Text, HasNoZero, text, pair, field, fields_body, startup_body}
use Rattle.message_view.specs.Spelled.{FitsPair, FitsField}
use Rattle.message_view.specs.Reading.{Part, ◌>>=◌, text_at, pair_named, pair_at, field_at, ended_at}
use Rattle.message_view.proofs.Pieces.{bind-inv, carry}
use Rattle.message_laws.proofs.Trips.{text_reads, text_spelled}
use Rattle.message_laws.proofs.ListTrips.{ended_reads, ended_spelled}
use Rattle.message_view.proofs.Pairings.{pair_shrinks}
use Rattle.message_view.proofs.Fieldings.{field_shrinks}

-- ---- pairs

named : (name value rest : List ℕ) → 0 < length name → HasNoZero value → pair_named name (text value ++ rest) ≡ Ok (Some (name, value), rest)
named [] value rest some h = absurd (omega arith)
named (b ∷ name) value rest some h = rw (text_reads value rest h) refl

pair_reads : (x : Text × Text) (rest : List ℕ) → FitsPair x → pair_at (pair x ++ rest) ≡ Ok (Some x, rest)
unfolding pair_at
pair_reads x rest h = rw (append_assoc (text x.0) (text x.1) rest, text_reads x.0 (text x.1 ++ rest) h.name) (named x.0 x.1 rest h.some h.value)

pair_ends : (rest : List ℕ) → pair_at (0 ∷ rest) ≡ Ok (None, rest)
unfolding pair_at text_at
pair_ends rest = refl

abbrev some-pair : ℕ → Text → Text × List ℕ → Part (Option (Text × Text))
some-pair b name value = Ok (Some (b ∷ name, value.0), value.1)

abbrev HoldsPair : List ℕ → Option (Text × Text) → List ℕ → Type 0
HoldsPair bytes None rest = bytes ≡ 0 ∷ rest
HoldsPair bytes (Some x) rest = (bytes ≡ pair x ++ rest) × FitsPair x

named-spelled : (name after : List ℕ) (x : Option (Text × Text)) (rest : List ℕ) → HasNoZero name → pair_named name after ≡ Ok (x, rest) → HoldsPair (text name ++ after) x rest
named-spelled [] after x rest h e = carry (λ (y : Option (Text × Text)) (r : List ℕ). HoldsPair (0 ∷ after) y r) (None, after) (x, rest) e refl
named-spelled (b ∷ name) after x rest h e =
    let v = bind-inv (text_at after) (some-pair b name) (x, rest) e in
    let p = text_spelled after v.0.0 v.0.1 v.1 in
    carry (λ (y : Option (Text × Text)) (r : List ℕ). HoldsPair (text (b ∷ name) ++ after) y r) (Some (b ∷ name, v.0.0), v.0.1) (x, rest) v.2
    (ap (λ (z : List ℕ). text (b ∷ name) ++ z) p.0 ∙ sym (append_assoc (text (b ∷ name)) (text v.0.0) v.0.1), record { some = omega arith; name = h; value = p.1 })

held-pair : (bytes : List ℕ) (x : Option (Text × Text)) (rest : List ℕ) → pair_at bytes ≡ Ok (x, rest) → HoldsPair bytes x rest
unfolding pair_at
held-pair bytes x rest e =
    let n = bind-inv (text_at bytes) (λ (name : Text × List ℕ). pair_named name.0 name.1) (x, rest) e in
    let p = text_spelled bytes n.0.0 n.0.1 n.1 in
    subst (λ (b : List ℕ). HoldsPair b x rest) (sym p.0) (named-spelled n.0.0 n.0.1 x rest p.1 n.2)

pub pairs_read : (xs : List (Text × Text)) (rest : List ℕ) → AllByRecursion FitsPair xs → ended_at pair_at (startup_body xs ++ rest) ≡ Ok (xs, rest)
pairs_read xs rest h =
    ap (λ (b : List ℕ). ended_at pair_at b) (append_assoc (flat_map pair xs) (0 ∷ []) rest)
    ∙ ended_reads pair_at pair FitsPair pair_shrinks pair_reads pair_ends (λ b x r e. held-pair b (Some x) r e) (λ b r e. held-pair b None r e) xs rest h

pub pairs_spelled : (bytes : List ℕ) (xs : List (Text × Text)) (rest : List ℕ) → AreBytes bytes → ended_at pair_at bytes ≡ Ok (xs, rest) → (bytes ≡ startup_body xs ++ rest) × AllByRecursion FitsPair xs
pairs_spelled bytes xs rest fits e =
    let all = ended_spelled pair_at pair FitsPair pair_shrinks pair_reads pair_ends (λ b x r k. held-pair b (Some x) r k) (λ b r k. held-pair b None r k) bytes xs rest e in
    (all.0 ∙ sym (append_assoc (flat_map pair xs) (0 ∷ []) rest), all.1)

-- ---- fields

abbrev field_of : ℕ × Text → List ℕ
field_of f = field f.0 f.1

field_reads : (x : ℕ × Text) (rest : List ℕ) → FitsField x → field_at (field_of x ++ rest) ≡ Ok (Some x, rest)
unfolding field_at
field_reads x rest h =
    let z : (x.0 == 0) ≡ false = ne_eqb x.0 0 (λ e. omega (arith, h.some, e)) in
    rw (z, text_reads x.1 rest h.text) refl

field_ends : (rest : List ℕ) → field_at (0 ∷ rest) ≡ Ok (None, rest)
unfolding field_at
field_ends rest = refl

abbrev some-field : ℕ → Text × List ℕ → Part (Option (ℕ × Text))
some-field b t = Ok (Some (b, t.0), t.1)

abbrev no-field : List ℕ → Part (Option (ℕ × Text))
no-field bytes = Ok (None, bytes)

abbrev HoldsField : List ℕ → Option (ℕ × Text) → List ℕ → Type 0
HoldsField bytes None rest = bytes ≡ 0 ∷ rest
HoldsField bytes (Some x) rest = (bytes ≡ field_of x ++ rest) × FitsField x

coded : (b : ℕ) (after : List ℕ) (x : Option (ℕ × Text)) (rest : List ℕ) (z : Bool) → (b == 0) ≡ z → (if z then no-field after else (text_at after >>= some-field b)) ≡ Ok (x, rest) → HoldsField (b ∷ after) x rest
coded b after x rest true z e =
    carry (λ (y : Option (ℕ × Text)) (r : List ℕ). HoldsField (b ∷ after) y r) (None, after) (x, rest) e (ap (λ (k : ℕ). k ∷ after) (eqb-true b 0 z))
coded b after x rest false z e =
    let t = bind-inv (text_at after) (some-field b) (x, rest) e in
    let p = text_spelled after t.0.0 t.0.1 t.1 in
    carry (λ (y : Option (ℕ × Text)) (r : List ℕ). HoldsField (b ∷ after) y r) (Some (b, t.0.0), t.0.1) (x, rest) t.2
    (ap (λ (k : List ℕ). b ∷ k) p.0, record { some = omega (arith, eqb-false b 0 z); text = p.1 })

held-field : (bytes : List ℕ) (x : Option (ℕ × Text)) (rest : List ℕ) → field_at bytes ≡ Ok (x, rest) → HoldsField bytes x rest
unfolding field_at
held-field [] x rest e = absurd (cc)
held-field (b ∷ bytes) x rest e = coded b bytes x rest (b == 0) refl e

pub fields_read : (xs : List (ℕ × Text)) (rest : List ℕ) → AllByRecursion FitsField xs → ended_at field_at (fields_body xs ++ rest) ≡ Ok (xs, rest)
fields_read xs rest h =
    ap (λ (b : List ℕ). ended_at field_at b) (append_assoc (flat_map field_of xs) (0 ∷ []) rest)
    ∙ ended_reads field_at field_of FitsField field_shrinks field_reads field_ends (λ b x r e. held-field b (Some x) r e) (λ b r e. held-field b None r e) xs rest h

pub fields_spelled : (bytes : List ℕ) (xs : List (ℕ × Text)) (rest : List ℕ) → AreBytes bytes → ended_at field_at bytes ≡ Ok (xs, rest) → (bytes ≡ fields_body xs ++ rest) × AllByRecursion FitsField xs
fields_spelled bytes xs rest fits e =
    let all = ended_spelled field_at field_of FitsField field_shrinks field_reads field_ends (λ b x r k. held-field b (Some x) r k) (λ b r k. held-field b None r k) bytes xs rest e in
    (all.0 ∙ sym (append_assoc (flat_map field_of xs) (0 ∷ []) rest), all.1)
