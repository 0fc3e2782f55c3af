-- How much may be handed out: never more than there is, and no less once more was given.
use Rattle.std.proofs.Common.{◌≡◌, ℕ, zero, suc, ◌+◌, ◌≤◌, Bool, true, false, List, [], ◌∷◌, ◌++◌, length, drop, get_or, refl, sym, ap, ◌∙◌, arith, length-append, length-drop}
use Rattle.std.proofs.lemmas.List.{drop-append-le}
use Rattle.std.specs.List.{flat_map}
use Rattle.frame_view.specs.declared.Side.TheVariants.{Client, Server}
use Rattle.frame_view.specs.declared.frames.TheConstants.{MAX_FRAME}
use Rattle.frame_view.specs.Frames.{AreBytes, FrameOf, FirstFront, AFirst, LacksFirst, FaultyFirst, Start, Cancels, AsksTls, AsksGss, Cut, first_front, frames, spelling}
use Rattle.frame_view.proofs.FirstPackets.{first-fits}
use Rattle.frame_view.proofs.Splitting.{frames-split, frames-go_on}
use Rattle.session_run_laws.specs.Settling.{count, closes, is_ready}
use Rattle.paced_client.specs.declared.pauses.Heard.{Heard}
use Rattle.paced_client.specs.Pauses.{start_end, first_end, closing_ends, pauses, readies, allowed_to_hand_out}
use Rattle.paced_client.specs.Hearing.{IsHearing, HasHeard}
use Rattle.paced_client.proofs.Pausing.{ends_after, ends_one}

-- ---- the pauses rise

-- these places are no less than `low`, no greater than `all`, and each no less than those before it
record Rises (places : List ℕ) (low all : ℕ) : Type 0 where
  least : (n : ℕ) → low ≤ get_or places n all
  most : (n : ℕ) → get_or places n all ≤ all
  order : (i j : ℕ) → i ≤ j → get_or places i all ≤ get_or places j all

rises_none : (low all : ℕ) → low ≤ all → Rises [] low all
rises_none low all h = record { least = λ n. h; most = λ n. omega arith; order = λ i j k. omega arith }

rises_below : (places : List ℕ) (low other all : ℕ) → low ≤ other → Rises places other all → Rises places low all
rises_below places low other all h r = record { least = λ n. omega (arith, r.least n); most = r.most; order = r.order }

rises_first : (places : List ℕ) (low end all : ℕ) → low ≤ end → end ≤ all → Rises places end all → Rises (end ∷ places) low all
rises_first places low end all h w r = record { least = least; most = most; order = order }
  where
    least : (n : ℕ) → low ≤ get_or (end ∷ places) n all
    least zero = h
    least (suc n) = omega (arith, h, r.least n)

    most : (n : ℕ) → get_or (end ∷ places) n all ≤ all
    most zero = w
    most (suc n) = r.most n

    order : (i j : ℕ) → i ≤ j → get_or (end ∷ places) i all ≤ get_or (end ∷ places) j all
    order zero zero k = omega arith
    order zero (suc j) k = r.least j
    order (suc i) zero k = absurd (omega arith)
    order (suc i) (suc j) k = r.order i j (omega arith)

rises_after : (fs : List FrameOf) (b : Bool) (low end all : ℕ) → low ≤ end → end ≤ all → Rises (closing_ends end fs) end all → Rises (ends_after fs b end) low all
rises_after fs true low end all h w r = rises_first (closing_ends end fs) low end all h w r
rises_after fs false low end all h w r = rises_below (closing_ends end fs) low end all h r

ends_rise : (fs : List FrameOf) (at all : ℕ) → at + length (flat_map spelling fs) ≤ all → Rises (closing_ends at fs) at all
ends_rise [] at all h = rises_none at all (omega arith)
ends_rise (f ∷ fs) at all h =
    let end = at + length (spelling f) in
    let room : end + length (flat_map spelling fs) ≤ all = omega (arith, length-append (spelling f) (flat_map spelling fs)) in
    let rest = rises_after fs (closes f) at end all (omega arith) (omega arith) (ends_rise fs end all room) in
    rw (ends_one f fs at (closes f) refl) rest

start_within : (input : List ℕ) (f : FirstFront) → first_front input ≡ f → start_end f (length input) ≤ length input
start_within input (AFirst (Start text) rest) e = omega (arith, first-fits input (Start text) rest e)
start_within input (AFirst (Cancels p s) rest) e = omega arith
start_within input (AFirst AsksTls rest) e = omega arith
start_within input (AFirst AsksGss rest) e = omega arith
start_within input (LacksFirst n) e = omega arith
start_within input (FaultyFirst x) e = omega arith

bytes_after : (n : ℕ) (bytes : List ℕ) → AreBytes bytes → AreBytes (drop n bytes)
bytes_after zero bytes fit = fit
bytes_after (suc n) [] fit = fit
bytes_after (suc n) (b ∷ bytes) fit = bytes_after n bytes (λ i. fit (suc i))

pauses_rise : (input : List ℕ) → AreBytes input → Rises (pauses input) 0 (length input)
pauses_rise input fit =
    let first = first_end input in
    let within : first ≤ length input = start_within input (first_front input) refl in
    let split = frames-split Client MAX_FRAME (drop first input) (bytes_after first input fit) in
    let room : first + length (flat_map spelling (frames Client MAX_FRAME (drop first input)).frames) ≤ length input =
    omega (arith, within, length-drop first input, ap length split.whole, length-append (flat_map spelling (frames Client MAX_FRAME (drop first input)).frames) (frames Client MAX_FRAME (drop first input)).rest) in
    rises_first (closing_ends first (frames Client MAX_FRAME (drop first input)).frames) 0 first (length input) (omega arith) within (ends_rise (frames Client MAX_FRAME (drop first input)).frames first (length input) room)

pub allowed_within : (input given : List ℕ) → AreBytes input → allowed_to_hand_out input given ≤ length input
allowed_within input given fit = (pauses_rise input fit).most (readies given)

-- ---- more is given

count-append : (p : FrameOf → Bool) (xs ys : List FrameOf) → count p (xs ++ ys) ≡ count p xs + count p ys
count-append p [] ys = omega arith
count-append p (x ∷ xs) ys = omega (arith, count-append p xs ys)

abbrev cut_of : List ℕ → Cut
cut_of given = frames Server MAX_FRAME given

readies_more : (given more : List ℕ) → readies (given ++ more) ≡ readies given + readies ((cut_of given).rest ++ more)
readies_more given more =
    ap (λ (c : Cut). count is_ready c.frames) (frames-go_on Server MAX_FRAME given more) ∙ count-append is_ready (cut_of given).frames (cut_of ((cut_of given).rest ++ more)).frames

pub readies_grow : (given more : List ℕ) → readies given ≤ readies (given ++ more)
readies_grow given more = omega (arith, readies_more given more)

pub allowed_grows : (input given more : List ℕ) → AreBytes input → allowed_to_hand_out input given ≤ allowed_to_hand_out input (given ++ more)
allowed_grows input given more fit = (pauses_rise input fit).order (readies given) (readies (given ++ more)) (readies_grow given more)

-- what was heard is heard of what is given later
pub still_hearing : (h : Heard) (given more : List ℕ) → HasHeard h given → IsHearing h (given ++ more)
still_hearing h given more k =
    let next : (cut_of given).rest ++ more ≡ drop h.end (given ++ more) = ap (λ (x : List ℕ). x ++ more) k.rest ∙ sym (drop-append-le h.end given more k.within) in
    record {
      within = omega (arith, k.within, length-append given more);
      few = k.few;
      answers = omega (arith, k.answers, readies_more given more, ap readies next);
      rest = ap (λ (c : Cut). c.rest) (frames-go_on Server MAX_FRAME given more) ∙ ap (λ (x : List ℕ). (cut_of x).rest) next;
    }
