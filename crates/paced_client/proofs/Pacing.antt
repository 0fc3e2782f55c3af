-- A paced client between its calls.
use Rattle.std.proofs.Common.{◌≡◌, ℕ, ◌+◌, ◌<◌, ◌≤◌, Bool, true, false, List, [], ◌++◌, length, get_or, take, drop, refl, sym, ap, ◌∙◌, arith, subst, take-add}
use Rattle.std.specs.Prelude.{◌==◌, ◌&&◌, ◌||◌}
use Rattle.std.proofs.lemmas.Bool.{true≢false, le-leb, leb-true}
use Rattle.frame_view.specs.declared.Side.TheVariants.{Server}
use Rattle.frame_view.specs.declared.frames.TheConstants.{MAX_FRAME}
use Rattle.frame_view.specs.Frames.{AreBytes, Cut}
use Rattle.frame_view.proofs.Splitting.{frames-stopped}
use Rattle.session_run_laws.specs.Settling.{count, is_ready}
use Rattle.server_end.specs.declared.Moved.TheVariants.{Count}
use Rattle.server_end.specs.Moves.{ClientReads, ClientWrites}
use Rattle.memory_ends.specs.Clients.{is_broken}
use Rattle.paced_client.specs.declared.pauses.Heard.{Heard}
use Rattle.paced_client.specs.Pauses.{pauses, readies, allowed_to_hand_out, all_answered}
use Rattle.paced_client.specs.Hearing.{IsHearing, HasHeard}
use Rattle.paced_client.specs.Standing.{IsPaced}
use Rattle.paced_client.specs.Paced.{PacedOf, facts_of, has_ended}
use Rattle.paced_client.proofs.Allowing.{allowed_within, allowed_grows, readies_grow, still_hearing}

-- ---- what it keeps

abbrev nothing : Heard
nothing = record { end = 0; readies = 0 }

heard_nothing : HasHeard nothing []
heard_nothing =
    let none = frames-stopped Server MAX_FRAME [] tt in
    record { within = omega arith; few = omega arith; answers = sym (ap (λ (c : Cut). count is_ready c.frames) none); rest = ap (λ (c : Cut). c.rest) none }

pub starts : (input items places given : List ℕ) (cut : ℕ) → 0 < cut → AreBytes input → items ≡ input → places ≡ pauses input → given ≡ [] → IsPaced items 0 places given nothing cut
starts input items places given cut h fit i p g = record {
  cuts = h;
  fits = subst AreBytes (sym i) fit;
  places = p ∙ ap pauses (sym i);
  hears = subst (HasHeard nothing) (sym g) heard_nothing;
  allowed = omega arith;
}

pub hears_more : (input places given items more : List ℕ) (at : ℕ) (h : Heard) (cut : ℕ) → IsPaced input at places given h cut → items ≡ given ++ more → IsHearing h items
hears_more input places given items more at h cut k e = subst (IsHearing h) (sym e) (still_hearing h given more k.hears)

pub keeps : (input places given items heard more : List ℕ) (at : ℕ) (h g : Heard) (cut : ℕ) → IsPaced input at places given h cut → items ≡ given ++ more → heard ≡ items → HasHeard g heard → IsPaced input at places items g cut
keeps input places given items heard more at h g cut k e same n = record {
  cuts = k.cuts;
  fits = k.fits;
  places = k.places;
  hears = subst (HasHeard g) same n;
  allowed = subst (λ (x : List ℕ). at ≤ allowed_to_hand_out input x) (sym e) (omega (arith, k.allowed, allowed_grows input given more k.fits));
}

pub taken_within : (input places given : List ℕ) (at : ℕ) (h : Heard) (cut : ℕ) → IsPaced input at places given h cut → at ≤ length input
taken_within input places given at h cut k = omega (arith, k.allowed, allowed_within input given k.fits)

-- so many bytes may be handed out
pub record Allows (client : PacedOf) (n : ℕ) : Type 0 where
  pub allowed : n ≡ allowed_to_hand_out client.input client.given
  pub taken : client.at ≤ n
  pub within : n ≤ length client.input

pub allows : (was client : PacedOf) (places : List ℕ) (h : Heard) (n : ℕ) → IsPaced was.input was.at places was.given h was.cut → was ≡ client → n ≡ get_or places h.readies (length was.input) → Allows client n
allows was client places h n k e r =
    let is : n ≡ allowed_to_hand_out was.input was.given = r ∙ ap (λ (x : List ℕ). get_or x h.readies (length was.input)) k.places ∙ ap (λ (i : ℕ). get_or (pauses was.input) i (length was.input)) k.hears.answers in
    subst (λ (x : PacedOf). Allows x n) e (record { allowed = is; taken = omega (arith, is, k.allowed); within = omega (arith, is, allowed_within was.input was.given k.fits) })

-- ---- what a call makes of its facts

pub handed_out : (was old : PacedOf) (n : ℕ) (got : List ℕ) → was ≡ old → has_ended old ≡ false → got ≡ take n (drop was.at was.input) → ClientReads (facts_of old) (facts_of (record was { at = was.at + n })) got (Count n)
handed_out was old n got e living g =
    subst (λ (x : PacedOf). ClientReads (facts_of x) (facts_of (record was { at = was.at + n })) got (Count n)) e (record {
      tells = refl;
      taken = λ w. take-add was.at n was.input ∙ ap (λ (x : List ℕ). take was.at was.input ++ x) (sym g);
      given = λ w. refl;
      faults = omega arith;
      read_waits = omega arith;
      write_waits = refl;
      ended = λ w. cc;
      stays_ended = λ w. absurd (true≢false (sym w ∙ ap has_ended e ∙ living));
    })

test_stays : (b c : Bool) (x y : Bool) → (x ≡ true → y ≡ true) → (b || (x && c)) ≡ true → (b || (y && c)) ≡ true
test_stays true c x y h e = refl
test_stays false c true true h e = e
test_stays false c false true h e = absurd (true≢false (sym e))
test_stays false c true false h e = absurd (true≢false (sym (h refl)))
test_stays false c false false h e = e

answered_stays : (input given put : List ℕ) → all_answered input given ≡ true → all_answered input (given ++ put) ≡ true
answered_stays input given put e = le-leb _ _ (omega (arith, leb-true (length (pauses input)) (readies given) e, readies_grow given put))

pub took_in : (old new : PacedOf) (n : ℕ) (put : List ℕ) → new ≡ record old { given = old.given ++ put } → ClientWrites (facts_of old) (facts_of new) put (Count n)
took_in old new n put e =
    subst (λ (x : PacedOf). ClientWrites (facts_of old) (facts_of x) put (Count n)) (sym e) (record {
      tells = refl;
      taken = λ w. refl;
      given = λ w. refl;
      faults = omega arith;
      read_waits = refl;
      write_waits = omega arith;
      ended = λ w. cc;
      stays_ended = λ w. test_stays (is_broken old.faults old.waits) (old.at == length old.input) (all_answered old.input old.given) (all_answered old.input (old.given ++ put)) (answered_stays old.input old.given put) w;
    })
