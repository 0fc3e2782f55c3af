-- The frames of a list of bytes and their rest.
use Rattle.std.proofs.Common.{◌≡◌, ℕ, zero, suc, ◌+◌, ◌^◌, ◌<◌, ◌≤◌, List, [], ◌∷◌, ◌++◌, length, drop, refl, sym, ap, arith, ◌∙◌, length-append, append_assoc}
use Rattle.std.specs.Int.{w32, to_be_bytes}
use Rattle.std.specs.List.{flat_map, AllByRecursion}
use Rattle.std.proofs.lemmas.List.{append-nil, drop_at}
use Rattle.frame_view.specs.declared.Side.{Side}
use Rattle.frame_view.specs.Frames.{AreBytes, Front, AFrame, Lacks, Faulty, front, FrameOf, spelling, IsFrame, Stops, Splits, Cut, before, cut_after, frames}
use Rattle.frame_view.specs.Laws.{following}
use Rattle.frame_view.proofs.Cuts.{front-fits, front-spelled, frames-spelling}
use Rattle.frame_view.proofs.Growth.{front-grows}

-- ---- any cutting gives the same frames

-- what is cut at the front of a byte and more, by what stands there
abbrev cut_at : Side → ℕ → ℕ → List ℕ → Front → Cut
cut_at side limit b bytes x = elim x [
  | AFrame kind body rest ↦ before (record { kind = kind; body = body }) (cut_after side limit (4 + length body) bytes)
  | Lacks n ↦ record { frames = []; rest = b ∷ bytes }
  | Faulty fault ↦ record { frames = []; rest = b ∷ bytes }
]

-- the frames after so many bytes go on so
abbrev GoesOn : Side → ℕ → List ℕ → List ℕ → ℕ → Type 0
GoesOn side limit bytes more n = cut_after side limit n (bytes ++ more) ≡ following (cut_after side limit n bytes).frames (cut_after side limit 0 ((cut_after side limit n bytes).rest ++ more))

goes_on-at : (side : Side) (limit b : ℕ) (bytes more : List ℕ) (x : Front) → front side limit (b ∷ bytes) ≡ x → ((n : ℕ) → n ≤ length bytes → GoesOn side limit bytes more n)
    → cut_at side limit b (bytes ++ more) (front side limit (b ∷ bytes ++ more)) ≡ following (cut_at side limit b bytes x).frames (cut_after side limit 0 ((cut_at side limit b bytes x).rest ++ more))
unfolding cut_after
goes_on-at side limit b bytes more (AFrame kind body rest) e next =
    let stays = (front-grows side limit (b ∷ bytes) more).whole kind body rest e in
    let f : FrameOf = record { kind = kind; body = body } in
    ap (cut_at side limit b (bytes ++ more)) stays ∙ ap (before f) (next (4 + length body) (omega (arith, front-fits side limit (b ∷ bytes) kind body rest e)))
goes_on-at side limit b bytes more (Lacks n) e next = refl
goes_on-at side limit b bytes more (Faulty fault) e next = refl

goes_on : (side : Side) (limit : ℕ) (bytes more : List ℕ) (n : ℕ) → n ≤ length bytes → GoesOn side limit bytes more n
unfolding cut_after
goes_on side limit [] more zero h = refl
goes_on side limit [] more (suc n) h = absurd (omega arith)
goes_on side limit (b ∷ bytes) more (suc n) h = goes_on side limit bytes more n (omega arith)
goes_on side limit (b ∷ bytes) more zero h = goes_on-at side limit b bytes more (front side limit (b ∷ bytes)) refl (λ n l. goes_on side limit bytes more n l)

pub frames-go_on : (side : Side) (limit : ℕ) (bytes more : List ℕ) → frames side limit (bytes ++ more) ≡ following (frames side limit bytes).frames (frames side limit ((frames side limit bytes).rest ++ more))
frames-go_on side limit bytes more = goes_on side limit bytes more 0 (omega arith)

-- ---- frames and rest are together the bytes

abbrev SplitsAt : Side → ℕ → List ℕ → Cut → Type 0
SplitsAt side limit bytes cut = Splits side limit bytes cut.frames cut.rest

splits-stopped : (side : Side) (limit : ℕ) (bytes : List ℕ) → Stops (front side limit bytes) → Splits side limit bytes [] bytes
splits-stopped side limit bytes s = record { whole = refl; each = tt; stops = s }

splits-before : (side : Side) (limit : ℕ) (bytes : List ℕ) (f : FrameOf) (after : List ℕ) (cut : Cut) → bytes ≡ spelling f ++ after → IsFrame side limit f → SplitsAt side limit after cut → SplitsAt side limit bytes (before f cut)
splits-before side limit bytes f after cut e is rest = record {
  whole = e ∙ ap (λ (t : List ℕ). spelling f ++ t) rest.whole ∙ sym (append_assoc (spelling f) (flat_map spelling cut.frames) cut.rest);
  each = (is, rest.each);
  stops = rest.stops;
}

splits-at : (side : Side) (limit b : ℕ) (bytes : List ℕ) (x : Front) → AreBytes (b ∷ bytes) → front side limit (b ∷ bytes) ≡ x → ((n : ℕ) → n ≤ length bytes → SplitsAt side limit (drop n bytes) (cut_after side limit n bytes))
    → SplitsAt side limit (b ∷ bytes) (cut_at side limit b bytes x)
splits-at side limit b bytes (AFrame kind body rest) fit e next =
    let f : FrameOf = record { kind = kind; body = body } in
    let s = front-spelled side limit (b ∷ bytes) kind body rest fit e in
    let tail : bytes ≡ to_be_bytes w32 (4 + length body) ++ body ++ rest = ap (λ (t : List ℕ). drop 1 t) s.0 in
    let past : drop (4 + length body) bytes ≡ rest = ap (λ (t : List ℕ). drop (4 + length body) t) tail ∙ drop_at (to_be_bytes w32 (4 + length body) ++ body) rest (4 + length body) (length-append (to_be_bytes w32 (4 + length body)) body) in
    splits-before side limit (b ∷ bytes) f (drop (4 + length body) bytes) (cut_after side limit (4 + length body) bytes)
    (s.0 ∙ ap (λ (t : List ℕ). spelling f ++ t) (sym past)) s.1 (next (4 + length body) (omega (arith, front-fits side limit (b ∷ bytes) kind body rest e)))
splits-at side limit b bytes (Lacks n) fit e next = splits-stopped side limit (b ∷ bytes) (rw e tt)
splits-at side limit b bytes (Faulty fault) fit e next = splits-stopped side limit (b ∷ bytes) (rw e tt)

splits : (side : Side) (limit : ℕ) (bytes : List ℕ) (n : ℕ) → AreBytes bytes → n ≤ length bytes → SplitsAt side limit (drop n bytes) (cut_after side limit n bytes)
unfolding cut_after
splits side limit [] zero fit h = splits-stopped side limit [] tt
splits side limit [] (suc n) fit h = absurd (omega arith)
splits side limit (b ∷ bytes) (suc n) fit h = splits side limit bytes n (λ i. fit (suc i)) (omega arith)
splits side limit (b ∷ bytes) zero fit h = splits-at side limit b bytes (front side limit (b ∷ bytes)) fit refl (λ n l. splits side limit bytes n (λ i. fit (suc i)) l)

pub frames-split : (side : Side) (limit : ℕ) (bytes : List ℕ) → AreBytes bytes → Splits side limit bytes (frames side limit bytes).frames (frames side limit bytes).rest
frames-split side limit bytes fit = splits side limit bytes 0 fit (omega arith)

-- ---- in one way

stopped-at : (side : Side) (limit b : ℕ) (bytes : List ℕ) (x : Front) → Stops x → cut_at side limit b bytes x ≡ record { frames = []; rest = b ∷ bytes }
stopped-at side limit b bytes (AFrame kind body rest) s = absurd s
stopped-at side limit b bytes (Lacks n) s = refl
stopped-at side limit b bytes (Faulty fault) s = refl

pub frames-stopped : (side : Side) (limit : ℕ) (bytes : List ℕ) → Stops (front side limit bytes) → frames side limit bytes ≡ record { frames = []; rest = bytes }
unfolding cut_after
frames-stopped side limit [] s = refl
frames-stopped side limit (b ∷ bytes) s = stopped-at side limit b bytes (front side limit (b ∷ bytes)) s

pub frames-spellings : (side : Side) (limit : ℕ) (fs : List FrameOf) (rest : List ℕ) → limit < 2 ^ 32 → AllByRecursion (IsFrame side limit) fs → frames side limit (flat_map spelling fs ++ rest) ≡ following fs (frames side limit rest)
frames-spellings side limit [] rest low each = refl
frames-spellings side limit (f ∷ fs) rest low each =
    ap (λ (t : List ℕ). frames side limit t) (append_assoc (spelling f) (flat_map spelling fs) rest) ∙ frames-spelling side limit f (flat_map spelling fs ++ rest) low each.0 ∙ ap (before f) (frames-spellings side limit fs rest low each.1)

pub splits-one_way : (side : Side) (limit : ℕ) (bytes : List ℕ) (fs : List FrameOf) (rest : List ℕ) → limit < 2 ^ 32 → Splits side limit bytes fs rest → frames side limit bytes ≡ record { frames = fs; rest = rest }
splits-one_way side limit bytes fs rest low s =
    ap (λ (t : List ℕ). frames side limit t) s.whole ∙ frames-spellings side limit fs rest low s.each ∙ ap (following fs) (frames-stopped side limit rest s.stops)
    ∙ ap (λ (t : List FrameOf). record { frames = t; rest = rest }) (append-nil fs)
