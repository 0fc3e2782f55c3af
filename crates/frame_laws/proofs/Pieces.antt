-- Any cutting into pieces gives the frames of all the bytes.
use Rattle.std.proofs.Common.{◌≡◌, ℕ, zero, suc, ◌+◌, ◌-◌, ◌*◌, ◌<◌, ◌≤◌, Bool, true, false, List, [], ◌∷◌, ◌++◌, length, take, drop, refl, sym, ap, subst, ◌∙◌, arith, append_assoc, length-append, length-drop}
use Rattle.std.specs.Prelude.{nat_le, nat_lt, if◌then◌else◌}
use Rattle.std.specs.List.{flat_map}
use Rattle.std.proofs.lemmas.Bool.{leb-true, leb-false, lt-ltb}
use Rattle.std.proofs.lemmas.List.{append-nil, take-append-drop}
use Rattle.frame_view.specs.declared.Side.{Side}
use Rattle.frame_view.specs.declared.FrameError.{FrameError}
use Rattle.frame_view.specs.Frames.{HeadFront, AHead, LacksHead, FaultyHead, head_front, FrameOf, Stops, front, frames, with_body}
use Rattle.frame_view.specs.Parts.{Body, Bad, PlaceOf, AtHead, InBody, AtFault, TurnOf, turn, of_head, of_less}
use Rattle.frame_view.proofs.Splitting.{frames-stopped}
use Rattle.frame_laws.specs.Joined.{After, Nothing, Breaks, Joined, with_part, joined_from, joined, shown, after_front, after_part, frame_by, Given, hand_in, hand_over}
use Rattle.frame_laws.specs.Laws.{Inside, Stands, Steps, since_border}
use Rattle.frame_laws.proofs.Heads.{heads-size, faults-grow, short-lacks}
use Rattle.frame_laws.proofs.Stepping.{steps}
use Rattle.frame_laws.proofs.Telling.{joined-append}

-- ---- what some bytes are

abbrev shown_of : Side → ℕ → List ℕ → Joined
shown_of side limit bytes = shown side limit (frames side limit bytes)

-- these frames, and then those
abbrev ahead : List FrameOf → Joined → Joined
ahead fs j = record { frames = fs ++ j.frames; after = j.after }

ahead-both : (fs gs : List FrameOf) (j : Joined) → ahead fs (ahead gs j) ≡ ahead (fs ++ gs) j
ahead-both fs gs j = ap (λ (t : List FrameOf). record { frames = t; after = j.after }) (sym (append_assoc fs gs j.frames))

ahead-none : (j : Joined) → ahead j.frames (record { frames = []; after = j.after }) ≡ j
ahead-none j = ap (λ (t : List FrameOf). record { frames = t; after = j.after }) (append-nil j.frames)

-- bytes at whose front no whole frame stands
stopped : (side : Side) (limit : ℕ) (bytes : List ℕ) → Stops (front side limit bytes) → shown_of side limit bytes ≡ record { frames = []; after = after_front (head_front side limit bytes) }
stopped side limit bytes s = ap (shown side limit) (frames-stopped side limit bytes s)

faulty : (side : Side) (limit : ℕ) (fault : FrameError) (bytes : List ℕ) → head_front side limit bytes ≡ FaultyHead fault → shown_of side limit bytes ≡ record { frames = []; after = Breaks fault }
faulty side limit fault bytes e =
    let s : Stops (front side limit bytes) = subst (λ (h : HeadFront). Stops (with_body h)) (sym e) tt in
    stopped side limit bytes s ∙ ap (λ (h : HeadFront). record { frames = []; after = after_front h }) e

short : (side : Side) (limit : ℕ) (bytes : List ℕ) → length bytes < 5 → shown_of side limit bytes ≡ record { frames = []; after = Nothing }
short side limit bytes h =
    let e = short-lacks side limit bytes h in
    let s : Stops (front side limit bytes) = subst (λ (h : HeadFront). Stops (with_body h)) (sym e) tt in
    stopped side limit bytes s ∙ ap (λ (h : HeadFront). record { frames = []; after = after_front h }) e

inside : (side : Side) (limit rest : ℕ) (bytes : List ℕ) (after : After) → 0 < rest → Inside side limit rest bytes after → shown_of side limit bytes ≡ record { frames = []; after = after }
inside side limit rest bytes after h i =
    let less : nat_lt (length i.body) (i.length_is - 4) ≡ true = lt-ltb _ _ (omega (arith, h, i.rest_is)) in
    let s : Stops (front side limit bytes) = subst (λ (h : HeadFront). Stops (with_body h)) (sym i.head) (rw less tt) in
    stopped side limit bytes s ∙ ap (λ (h : HeadFront). record { frames = []; after = after_front h }) i.head ∙ ap (λ (x : After). record { frames = []; after = x }) (sym i.after_is)

-- ---- what is to be expected

-- the bytes since the last border; what is expected of those that come is what they are behind these
record Going (side : Side) (limit : ℕ) (place : PlaceOf) (j : Joined) (expected : List ℕ → Joined) : Type 0 where
  since : List ℕ
  stands : Stands side limit place since j.after
  expects : (more : List ℕ) → expected more ≡ ahead j.frames (shown_of side limit (since ++ more))

record Broken (fault : FrameError) (j : Joined) (expected : List ℕ → Joined) : Type 0 where
  broken : j.after ≡ Breaks fault
  stays : (more : List ℕ) → expected more ≡ j

abbrev Expects : Side → ℕ → PlaceOf → Joined → (List ℕ → Joined) → Type 0
Expects side limit (AtHead begun) j expected = Going side limit (AtHead begun) j expected
Expects side limit (InBody rest) j expected = Going side limit (InBody rest) j expected
Expects side limit (AtFault begun fault) j expected = Broken fault j expected

-- the calls that are still needed: two for each byte, and one for an empty last part
abbrev calls : PlaceOf → List ℕ → ℕ
calls (AtHead begun) piece = 2 * length piece
calls (InBody zero) piece = 1 + 2 * length piece
calls (InBody (suc n)) piece = 2 * length piece
calls (AtFault begun fault) piece = 0

-- one call
record Called (side : Side) (limit : ℕ) (place : PlaceOf) (j : Joined) (expected : List ℕ → Joined) (piece : List ℕ) (t : TurnOf) : Type 0 where
  next : List ℕ → Joined
  expects : Expects side limit t.place (with_part j t.part) next
  same : (more : List ℕ) → expected (piece ++ more) ≡ next (drop t.used piece ++ more)
  fewer : (m : ℕ) → calls place piece ≤ suc m → calls t.place (drop t.used piece) ≤ m

-- the bytes are those that are used and the others
goes : (side : Side) (limit : ℕ) (place : PlaceOf) (j : Joined) (expected : List ℕ → Joined) (piece : List ℕ) (t : TurnOf) (g : Going side limit place j expected) → Steps side limit g.since piece j.after t
    → (more : List ℕ) → expected (piece ++ more) ≡ ahead (with_part j t.part).frames (shown_of side limit (since_border t.part (g.since ++ take t.used piece) ++ (drop t.used piece ++ more)))
goes side limit place j expected piece t g s more =
    let cut : piece ++ more ≡ take t.used piece ++ (drop t.used piece ++ more) = ap (λ (p : List ℕ). p ++ more) (sym (take-append-drop t.used piece)) ∙ append_assoc (take t.used piece) (drop t.used piece) more in
    ap expected cut ∙ g.expects (take t.used piece ++ (drop t.used piece ++ more))
    ∙ ap (λ (c : _). ahead j.frames (shown side limit c)) (s.frames (drop t.used piece ++ more))
    ∙ ahead-both j.frames (frame_by t.part j.after) (shown_of side limit (since_border t.part (g.since ++ take t.used piece) ++ (drop t.used piece ++ more)))

-- a call after which no fault stands
called : (side : Side) (limit : ℕ) (place : PlaceOf) (j : Joined) (expected : List ℕ → Joined) (piece : List ℕ) (t : TurnOf) (g : Going side limit place j expected) → Steps side limit g.since piece j.after t
    → ((next : List ℕ → Joined) → Going side limit t.place (with_part j t.part) next → Expects side limit t.place (with_part j t.part) next)
    → ((m : ℕ) → calls place piece ≤ suc m → calls t.place (drop t.used piece) ≤ m)
    → Called side limit place j expected piece t
called side limit place j expected piece t g s stays fewer =
    let next : List ℕ → Joined = λ more. ahead (with_part j t.part).frames (shown_of side limit (since_border t.part (g.since ++ take t.used piece) ++ more)) in
    record {
      next = next;
      expects = stays next (record { since = since_border t.part (g.since ++ take t.used piece); stands = s.stands; expects = λ more. refl });
      same = goes side limit place j expected piece t g s;
      fewer = fewer;
    }

body-calls : (rest : ℕ) (piece : List ℕ) → calls (InBody rest) piece ≤ 1 + 2 * length piece
body-calls zero piece = omega arith
body-calls (suc n) piece = omega arith

-- ---- one call at a head

module _ (side : Side) (limit : ℕ) (begun : List ℕ) (j : Joined) (expected : List ℕ → Joined) (piece : List ℕ) (g : Going side limit (AtHead begun) j expected) where
  at_head-called : (h : HeadFront) → head_front side limit (begun ++ piece) ≡ h → Steps side limit g.since piece j.after (of_head begun piece h) → Called side limit (AtHead begun) j expected piece (of_head begun piece h)
  at_head-called (AHead kind len rest) e s =
      let size = heads-size side limit kind len rest (begun ++ piece) e in
      called side limit (AtHead begun) j expected piece (of_head begun piece (AHead kind len rest)) g s (λ next x. x)
      (λ m h. omega (arith, h, body-calls (len - 4) (drop (5 - length begun) piece), length-drop (5 - length begun) piece, size, length-append begun piece, g.stands.1))
  at_head-called (LacksHead n) e s =
      called side limit (AtHead begun) j expected piece (of_head begun piece (LacksHead n)) g s (λ next x. x)
      (λ m h. omega (arith, length-drop (length piece) piece))
  at_head-called (FaultyHead fault) e s =
      let broken : after_part (Bad fault) j.after ≡ Breaks fault = ap (after_part (Bad fault)) g.stands.2 in
      record {
        next = λ more. with_part j (Bad fault);
        expects = record { broken = broken; stays = λ more. refl };
        same = λ more.
            let bytes : g.since ++ (piece ++ more) ≡ (begun ++ piece) ++ more = ap (λ (x : List ℕ). x ++ (piece ++ more)) g.stands.0 ∙ sym (append_assoc begun piece more) in
            g.expects (piece ++ more)
            ∙ ap (λ (x : List ℕ). ahead j.frames (shown_of side limit x)) bytes
            ∙ ap (ahead j.frames) (faulty side limit fault ((begun ++ piece) ++ more) (faults-grow side limit fault (begun ++ piece) more e))
            ∙ ap (λ (x : After). record { frames = j.frames ++ []; after = x }) (sym broken);
        fewer = λ m h. omega arith;
      }

-- ---- one call inside a body

last-fewer : (rest m : ℕ) (piece : List ℕ) → rest ≤ length piece → calls (InBody rest) piece ≤ suc m → 2 * length (drop rest piece) ≤ m
last-fewer zero m piece low h = omega (arith, h)
last-fewer (suc n) m piece low h = omega (arith, h, low, length-drop (suc n) piece)

-- no byte is left of the piece, and some are to come
none-left : (rest m : ℕ) (piece : List ℕ) → 0 < rest → length piece ≡ 0 → calls (InBody rest) piece ≤ m
none-left zero m piece h e = absurd (omega (arith, h))
none-left (suc n) m piece h e = omega (arith, e)

module _ (side : Side) (limit rest : ℕ) (j : Joined) (expected : List ℕ → Joined) where
  less-called : (piece : List ℕ) (g : Going side limit (InBody rest) j expected) → length piece < rest → Steps side limit g.since piece j.after (of_less rest piece) → Called side limit (InBody rest) j expected piece (of_less rest piece)
  less-called [] g h s = called side limit (InBody rest) j expected [] (of_less rest []) g s (λ next x. x) (λ m l. none-left rest m [] (omega (arith, h)) refl)
  less-called (b ∷ piece) g h s =
      called side limit (InBody rest) j expected (b ∷ piece) (of_less rest (b ∷ piece)) g s (λ next x. x)
      (λ m l. none-left (rest - length (b ∷ piece)) m (drop (length (b ∷ piece)) (b ∷ piece)) (omega (arith, h)) (omega (arith, length-drop (length (b ∷ piece)) (b ∷ piece))))

  in_body-called : (piece : List ℕ) (b : Bool) (g : Going side limit (InBody rest) j expected) → nat_le rest (length piece) ≡ b
      → Steps side limit g.since piece j.after (if b then record { used = rest; part = Body (take rest piece) true; place = AtHead [] } else of_less rest piece)
      → Called side limit (InBody rest) j expected piece (if b then record { used = rest; part = Body (take rest piece) true; place = AtHead [] } else of_less rest piece)
  in_body-called piece true g e s =
      called side limit (InBody rest) j expected piece (record { used = rest; part = Body (take rest piece) true; place = AtHead [] }) g s (λ next x. x)
      (λ m h. last-fewer rest m piece (leb-true rest (length piece) e) h)
  in_body-called piece false g e s = less-called piece g (leb-false rest (length piece) e) s

-- ---- one call at any place

one-call : (side : Side) (limit : ℕ) (place : PlaceOf) (j : Joined) (expected : List ℕ → Joined) (piece : List ℕ) → Expects side limit place j expected → Called side limit place j expected piece (turn side limit place piece)
one-call side limit (AtHead begun) j expected piece g =
    at_head-called side limit begun j expected piece g (head_front side limit (begun ++ piece)) refl (steps side limit (AtHead begun) g.since piece j.after g.stands)
one-call side limit (InBody rest) j expected piece g =
    in_body-called side limit rest j expected piece (nat_le rest (length piece)) g refl (steps side limit (InBody rest) g.since piece j.after g.stands)
one-call side limit (AtFault begun fault) j expected piece b =
    let broken : after_part (Bad fault) j.after ≡ Breaks fault = ap (after_part (Bad fault)) b.broken in
    let kept : j ≡ with_part j (Bad fault) = sym (ahead-none j) ∙ ap (λ (x : After). record { frames = j.frames ++ []; after = x }) (b.broken ∙ sym broken) in
    record {
      next = expected;
      expects = record { broken = broken; stays = λ more. b.stays more ∙ kept };
      same = λ more. refl;
      fewer = λ m h. omega arith;
    }

-- ---- a piece

record Done (side : Side) (limit : ℕ) (j : Joined) (expected : List ℕ → Joined) (piece : List ℕ) (given : Given) : Type 0 where
  next : List ℕ → Joined
  expects : Expects side limit given.place (joined_from j given.parts) next
  same : (more : List ℕ) → expected (piece ++ more) ≡ next more
  used_up : calls given.place [] ≤ 0

no-call : (side : Side) (limit : ℕ) (place : PlaceOf) (j : Joined) (expected : List ℕ → Joined) (piece : List ℕ) → Expects side limit place j expected → calls place piece ≤ 0
    → Done side limit j expected piece (record { parts = []; place = place })
no-call side limit (AtHead begun) j expected [] g h = record { next = expected; expects = g; same = λ more. refl; used_up = omega arith }
no-call side limit (AtHead begun) j expected (b ∷ piece) g h = absurd (omega (arith, h))
no-call side limit (InBody zero) j expected piece g h = absurd (omega (arith, h))
no-call side limit (InBody (suc n)) j expected [] g h = record { next = expected; expects = g; same = λ more. refl; used_up = omega arith }
no-call side limit (InBody (suc n)) j expected (b ∷ piece) g h = absurd (omega (arith, h))
no-call side limit (AtFault begun fault) j expected piece b h = record { next = expected; expects = b; same = λ more. b.stays (piece ++ more) ∙ sym (b.stays more); used_up = omega arith }

one-piece : (side : Side) (limit n : ℕ) (place : PlaceOf) (j : Joined) (expected : List ℕ → Joined) (piece : List ℕ) → Expects side limit place j expected → calls place piece ≤ n
    → Done side limit j expected piece (hand_in side limit n place piece)
one-piece side limit zero place j expected piece x h = no-call side limit place j expected piece x h
one-piece side limit (suc n) place j expected piece x h =
    let t : TurnOf = turn side limit place piece in
    let c = one-call side limit place j expected piece x in
    let d = one-piece side limit n t.place (with_part j t.part) c.next (drop t.used piece) c.expects (c.fewer n h) in
    record {
      next = d.next;
      expects = d.expects;
      same = λ more. c.same more ∙ d.same more;
      used_up = d.used_up;
    }

-- ---- all pieces

enough : (place : PlaceOf) (piece : List ℕ) → calls place piece ≤ 2 * length piece + 1
enough (AtHead begun) piece = omega arith
enough (InBody zero) piece = omega arith
enough (InBody (suc n)) piece = omega arith
enough (AtFault begun fault) piece = omega arith

no-piece : (side : Side) (limit : ℕ) (place : PlaceOf) (j : Joined) (expected : List ℕ → Joined) → Expects side limit place j expected → calls place [] ≤ 0 → j ≡ expected []
no-piece side limit (AtHead begun) j expected g h =
    let few : length g.since < 5 = omega (arith, ap length g.stands.0, g.stands.1) in
    sym (
    g.expects [] ∙ ap (λ (x : List ℕ). ahead j.frames (shown_of side limit x)) (append-nil g.since)
    ∙ ap (ahead j.frames) (short side limit g.since few ∙ ap (λ (x : After). record { frames = []; after = x }) (sym g.stands.2))
    ∙ ahead-none j
    )
no-piece side limit (InBody zero) j expected g h = absurd (omega (arith, h))
no-piece side limit (InBody (suc n)) j expected g h = sym (
    g.expects [] ∙ ap (λ (x : List ℕ). ahead j.frames (shown_of side limit x)) (append-nil g.since)
    ∙ ap (ahead j.frames) (inside side limit (suc n) g.since j.after (omega arith) g.stands)
    ∙ ahead-none j
    )
no-piece side limit (AtFault begun fault) j expected b h = sym (b.stays [])

all-pieces : (side : Side) (limit : ℕ) (pieces : List (List ℕ)) (place : PlaceOf) (j : Joined) (expected : List ℕ → Joined) → Expects side limit place j expected → calls place [] ≤ 0
    → joined_from j (hand_over side limit place pieces) ≡ expected (flat_map (λ piece. piece) pieces)
all-pieces side limit [] place j expected x h = no-piece side limit place j expected x h
all-pieces side limit (piece ∷ pieces) place j expected x h =
    let given : Given = hand_in side limit (2 * length piece + 1) place piece in
    let d = one-piece side limit (2 * length piece + 1) place j expected piece x (enough place piece) in
    joined-append j given.parts (hand_over side limit given.place pieces)
    ∙ all-pieces side limit pieces given.place (joined_from j given.parts) d.next d.expects d.used_up
    ∙ sym (d.same (flat_map (λ piece. piece) pieces))

pub pieces-frames : (side : Side) (limit : ℕ) (pieces : List (List ℕ)) → joined (hand_over side limit (AtHead []) pieces) ≡ shown side limit (frames side limit (flat_map (λ piece. piece) pieces))
pieces-frames side limit pieces =
    all-pieces side limit pieces (AtHead []) (record { frames = []; after = Nothing }) (shown_of side limit) (record { since = []; stands = (refl, omega arith, refl); expects = λ more. refl }) (omega arith)
