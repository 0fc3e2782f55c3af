-- Where a client waits, and how its answers are counted.
use Rattle.std.proofs.Common.{◌≡◌, ℕ, ◌+◌, ◌≤◌, Bool, true, false, List, [], ◌∷◌, ◌++◌, length, drop, refl, sym, ap, ◌∙◌, arith, length-append, append_assoc, append-nil}
use Rattle.std.specs.Prelude.{if◌then◌else◌}
use mir.Val.{bool_byte}
use Rattle.std.specs.Borrow.{Bor}
use Rattle.frame_view.specs.declared.Side.{Side}
use Rattle.frame_view.specs.declared.Side.TheVariants.{Client, Server}
use Rattle.frame_view.specs.declared.frames.TheConstants.{MAX_FRAME}
use Rattle.frame_view.specs.declared.Frame.{Frame}
use Rattle.frame_view.specs.declared.Step.{Step}
use Rattle.frame_view.specs.declared.Step.TheVariants.{Whole}
use Rattle.frame_view.specs.declared.FirstStep.{FirstStep}
use Rattle.frame_view.specs.declared.FirstStep.TheVariants as first
use Rattle.frame_view.specs.Answers.{Tells, TellsFirst}
use Rattle.frame_view.specs.Frames.{AreBytes, FrameOf, Front, AFrame, Lacks, Faulty, FirstFront, AFirst, LacksFirst, FaultyFirst, Start, Cancels, AsksTls, AsksGss, Cut, first_front, front, frames, spelling}
use Rattle.frame_view.proofs.Cuts.{front-fits}
use Rattle.frame_view.proofs.FirstTaken.{started}
use Rattle.frame_view.proofs.Splitting.{frames-stopped}
use Rattle.frame_view.proofs.Taking.{plain, taken_at, not_whole}
use Rattle.session_run_laws.specs.Settling.{count, closes, is_ready}
use Rattle.paced_client.specs.declared.pauses.Heard.{Heard}
use Rattle.paced_client.specs.Pauses.{start_end, closing_ends}
use Rattle.paced_client.specs.Hearing.{IsHearing, HasHeard}

-- ---- the StartupMessage

pub ends_at_start : (part : Bor (List ℕ)) (input : List ℕ) → AreBytes input → TellsFirst (first.Startup part) (first_front input) → start_end (first_front input) (length input) ≡ 8 + length part.now
ends_at_start part input fit t = ap (λ (f : FirstFront). start_end f (length input)) (started part input fit t).first

pub ends_at_all : (x : FirstStep) (f : FirstFront) (all : ℕ) → ((part : Bor (List ℕ)) → x ≡ first.Startup part → ⊥) → TellsFirst x f → start_end f all ≡ all
ends_at_all (first.Startup part) f all n t = absurd (n part refl)
ends_at_all x (AFirst (Cancels p s) rest) all n t = refl
ends_at_all x (AFirst AsksTls rest) all n t = refl
ends_at_all x (AFirst AsksGss rest) all n t = refl
ends_at_all x (LacksFirst m) all n t = refl
ends_at_all x (FaultyFirst f) all n t = refl
ends_at_all (first.Cancel pid secret) (AFirst (Start text) rest) all n t = absurd t
ends_at_all first.Tls (AFirst (Start text) rest) all n t = absurd t
ends_at_all first.Gss (AFirst (Start text) rest) all n t = absurd t
ends_at_all (first.Need m) (AFirst (Start text) rest) all n t = absurd t
ends_at_all (first.Bad f) (AFirst (Start text) rest) all n t = absurd t

-- ---- a whole frame

size-at : (side : Side) (limit : ℕ) (frame : Frame) (bytes : List ℕ) (f : Front) → front side limit bytes ≡ f → Tells (Whole frame) bytes f → length frame.whole.now ≡ length (spelling (plain frame))
size-at side limit frame bytes (AFrame k body rest) e t =
    omega (arith, length-append frame.whole.now rest, ap length t.whole_is, ap length t.body_is, front-fits side limit bytes k body rest e)
size-at side limit frame bytes (Lacks n) e t = absurd t
size-at side limit frame bytes (Faulty f) e t = absurd t

-- what stands at a place, where a whole frame does
pub record Stands (side : Side) (frame : Frame) (bytes : List ℕ) (at : ℕ) : Type 0 where
  pub first : (frames side MAX_FRAME (drop at bytes)).frames ≡ plain frame ∷ (frames side MAX_FRAME (drop (at + length frame.whole.now) bytes)).frames
  pub rest : (frames side MAX_FRAME (drop at bytes)).rest ≡ (frames side MAX_FRAME (drop (at + length frame.whole.now) bytes)).rest
  pub size : length frame.whole.now ≡ length (spelling (plain frame))
  pub within : at + length frame.whole.now ≤ length bytes
  pub some : 5 ≤ length frame.whole.now

pub stands : (side : Side) (frame : Frame) (bytes : List ℕ) (at : ℕ) → at ≤ length bytes → Tells (Whole frame) (drop at bytes) (front side MAX_FRAME (drop at bytes)) → Stands side frame bytes at
stands side frame bytes at h t =
    let k = taken_at side MAX_FRAME frame bytes at h t in
    record {
      first = ap (λ (c : Cut). c.frames) k.first;
      rest = ap (λ (c : Cut). c.rest) k.first;
      size = size-at side MAX_FRAME frame (drop at bytes) (front side MAX_FRAME (drop at bytes)) refl t;
      within = k.within;
      some = k.some;
    }

-- where none does
pub none_stands : (side : Side) (x : Step) (bytes : List ℕ) → ((frame : Frame) → x ≡ Whole frame → ⊥) → Tells x bytes (front side MAX_FRAME bytes) → frames side MAX_FRAME bytes ≡ record { frames = []; rest = bytes }
none_stands side x bytes n t = frames-stopped side MAX_FRAME bytes (not_whole x bytes (front side MAX_FRAME bytes) n t)

-- ---- the ends of closing messages

abbrev ends_from : List ℕ → ℕ → List ℕ
ends_from input at = closing_ends at (frames Client MAX_FRAME (drop at input)).frames

-- a frame that ends here, and the frames after it
abbrev pub ends_after : List FrameOf → Bool → ℕ → List ℕ
ends_after fs true end = end ∷ closing_ends end fs
ends_after fs false end = closing_ends end fs

pub ends_one : (f : FrameOf) (fs : List FrameOf) (at : ℕ) (b : Bool) → closes f ≡ b → closing_ends at (f ∷ fs) ≡ ends_after fs b (at + length (spelling f))
ends_one f fs at true e = rw e refl
ends_one f fs at false e = rw e refl

ends_at : (frame : Frame) (input : List ℕ) (at : ℕ) (b : Bool) → closes (plain frame) ≡ b → Stands Client frame input at
    → ends_from input at ≡ ends_after (frames Client MAX_FRAME (drop (at + length frame.whole.now) input)).frames b (at + length frame.whole.now)
ends_at frame input at b e s =
    let after = (frames Client MAX_FRAME (drop (at + length frame.whole.now) input)).frames in
    ap (closing_ends at) s.first ∙ ends_one (plain frame) after at b e ∙ ap (λ (n : ℕ). ends_after after b (at + n)) (sym s.size)

pub ends_pushed : (frame : Frame) (input was now all : List ℕ) (at : ℕ) → at ≤ length input → Tells (Whole frame) (drop at input) (front Client MAX_FRAME (drop at input)) → closes (plain frame) ≡ true
    → now ≡ was ++ (at + length frame.whole.now) ∷ [] → was ++ ends_from input at ≡ all → now ++ ends_from input (at + length frame.whole.now) ≡ all
ends_pushed frame input was now all at h t e n w =
    let end = at + length frame.whole.now in
    ap (λ (x : List ℕ). x ++ ends_from input end) n ∙ append_assoc was (end ∷ []) (ends_from input end) ∙ ap (λ (x : List ℕ). was ++ x) (sym (ends_at frame input at true e (stands Client frame input at h t))) ∙ w

pub ends_passed : (frame : Frame) (input was all : List ℕ) (at : ℕ) → at ≤ length input → Tells (Whole frame) (drop at input) (front Client MAX_FRAME (drop at input)) → closes (plain frame) ≡ false
    → was ++ ends_from input at ≡ all → was ++ ends_from input (at + length frame.whole.now) ≡ all
ends_passed frame input was all at h t e w = ap (λ (x : List ℕ). was ++ x) (sym (ends_at frame input at false e (stands Client frame input at h t))) ∙ w

pub ends_all : (x : Step) (input was all : List ℕ) (at : ℕ) → ((frame : Frame) → x ≡ Whole frame → ⊥) → Tells x (drop at input) (front Client MAX_FRAME (drop at input)) → was ++ ends_from input at ≡ all → was ≡ all
ends_all x input was all at n t w = sym (append-nil was) ∙ ap (λ (c : Cut). was ++ closing_ends at c.frames) (sym (none_stands Client x (drop at input) n t)) ∙ w

-- ---- what was heard

as_number : (b : Bool) → bool_byte b ≡ (if b then 1 else 0)
as_number true = refl
as_number false = refl

pub hears_one : (h : Heard) (given : List ℕ) (frame : Frame) (one : ℕ) → IsHearing h given → Tells (Whole frame) (drop h.end given) (front Server MAX_FRAME (drop h.end given)) → one ≡ bool_byte (is_ready (plain frame))
    → IsHearing (record { end = h.end + length frame.whole.now; readies = h.readies + one }) given
hears_one h given frame one k t e =
    let s = stands Server frame given h.end k.within t in
    let few : (b : Bool) → (if b then 1 else 0) ≤ 1 = λ b. elim b as (λ x. (if x then 1 else 0) ≤ 1) [ true ↦ omega arith | false ↦ omega arith ] in
    record {
      within = s.within;
      few = omega (arith, k.few, s.some, e, few (is_ready (plain frame)), as_number (is_ready (plain frame)));
      answers = omega (arith, k.answers, e, as_number (is_ready (plain frame)), ap (count is_ready) s.first);
      rest = k.rest ∙ s.rest;
    }

pub hears_all : (x : Step) (h : Heard) (given : List ℕ) → ((frame : Frame) → x ≡ Whole frame → ⊥) → Tells x (drop h.end given) (front Server MAX_FRAME (drop h.end given)) → IsHearing h given → HasHeard h given
hears_all x h given n t k =
    let none = none_stands Server x (drop h.end given) n t in
    record {
      within = k.within;
      few = k.few;
      answers = omega (arith, k.answers, ap (λ (c : Cut). count is_ready c.frames) none);
      rest = k.rest ∙ ap (λ (c : Cut). c.rest) none;
    }
