-- An answer's frames, cut one after the other.
use Rattle.std.proofs.Common.{◌≡◌, ℕ, ◌-◌, List, [], ◌∷◌, ◌++◌, take, drop, length, refl, sym, ap, ap₂, ◌∙◌, arith, take_all, length-drop, get_or-drop, ◌+◌, ◌<◌, subst}
use Rattle.std.proofs.lemmas.List.{append_cancel_right}
use Rattle.frame_view.proofs.Cuts.{front-spelled}
use Rattle.frame_view.proofs.Splitting.{frames-stopped}
use Rattle.frame_view.proofs.Taking.{not_whole, taken}
use Rattle.frame_view.specs.Answers.{Tells}
use Rattle.frame_view.specs.Frames.{AreBytes, Front, AFrame, Lacks, Faulty, Cut, before, front, frames, spelling}
use Rattle.frame_view.specs.declared.Frame.{Frame}
use Rattle.frame_view.specs.declared.Side.TheVariants.{Server}
use Rattle.frame_view.specs.declared.Step.{Step}
use Rattle.frame_view.specs.declared.Step.TheVariants.{Whole}
use Rattle.session_values.specs.Answers.{frame_of}
use Rattle.link_run.specs.declared.reply.TheConstants.{MAX_REPLY}

-- the bytes behind a place, as the code has them
rest_at : (at : ℕ) (bytes : List ℕ) → take (length bytes - at) (drop at bytes) ≡ drop at bytes
rest_at at bytes = take_all (length bytes - at) (drop at bytes) (omega (arith, length-drop at bytes))

goes_on : (frame : Frame) (bytes : List ℕ) → Tells (Whole frame) bytes (front Server MAX_REPLY bytes)
    → frames Server MAX_REPLY bytes ≡ before (frame_of frame) (frames Server MAX_REPLY (take (length bytes - length frame.whole.now) (drop (length frame.whole.now) bytes)))
goes_on frame bytes t =
    (taken Server MAX_REPLY frame bytes t).first ∙ ap (λ (bs : List ℕ). before (frame_of frame) (frames Server MAX_REPLY bs)) (sym (rest_at (length frame.whole.now) bytes))

pub frame_is_first : (frame : Frame) (bytes : List ℕ) → Tells (Whole frame) bytes (front Server MAX_REPLY bytes)
    → (frames Server MAX_REPLY bytes).frames ≡ frame_of frame ∷ (frames Server MAX_REPLY (take (length bytes - length frame.whole.now) (drop (length frame.whole.now) bytes))).frames
frame_is_first frame bytes t = ap (λ (c : Cut). c.frames) (goes_on frame bytes t)

pub rest_is_last : (frame : Frame) (bytes : List ℕ) → Tells (Whole frame) bytes (front Server MAX_REPLY bytes)
    → (frames Server MAX_REPLY (take (length bytes - length frame.whole.now) (drop (length frame.whole.now) bytes))).rest ≡ (frames Server MAX_REPLY bytes).rest
rest_is_last frame bytes t = sym (ap (λ (c : Cut). c.rest) (goes_on frame bytes t))

stopped : (x : Step) (bytes : List ℕ) → ((frame : Frame) → x ≡ Whole frame → ⊥) → Tells x bytes (front Server MAX_REPLY bytes) → frames Server MAX_REPLY bytes ≡ record { frames = []; rest = bytes }
stopped x bytes n t = frames-stopped Server MAX_REPLY bytes (not_whole x bytes (front Server MAX_REPLY bytes) n t)

pub no_frame : (x : Step) (bytes : List ℕ) → ((frame : Frame) → x ≡ Whole frame → ⊥) → Tells x bytes (front Server MAX_REPLY bytes) → (frames Server MAX_REPLY bytes).frames ≡ []
no_frame x bytes n t = ap (λ (c : Cut). c.frames) (stopped x bytes n t)

pub all_is_rest : (x : Step) (bytes : List ℕ) → ((frame : Frame) → x ≡ Whole frame → ⊥) → Tells x bytes (front Server MAX_REPLY bytes) → (frames Server MAX_REPLY bytes).rest ≡ bytes
all_is_rest x bytes n t = ap (λ (c : Cut). c.rest) (stopped x bytes n t)

whole_at : (frame : Frame) (bytes : List ℕ) (f : Front) → AreBytes bytes → front Server MAX_REPLY bytes ≡ f → Tells (Whole frame) bytes f → frame.whole.now ≡ spelling (frame_of frame)
whole_at frame bytes (AFrame k body rest) b e t =
    append_cancel_right frame.whole.now (spelling (frame_of frame)) rest
    (t.whole_is ∙ (front-spelled Server MAX_REPLY bytes k body rest b e).0 ∙ ap₂ (λ (n : ℕ) (x : List ℕ). spelling (record { kind = n; body = x }) ++ rest) (sym t.kind_is) (sym t.body_is))
whole_at frame bytes (Lacks n) b e t = absurd t
whole_at frame bytes (Faulty fault) b e t = absurd t

pub whole_is_spelling : (frame : Frame) (bytes : List ℕ) → AreBytes bytes → Tells (Whole frame) bytes (front Server MAX_REPLY bytes) → frame.whole.now ≡ spelling (frame_of frame)
whole_is_spelling frame bytes b t = whole_at frame bytes (front Server MAX_REPLY bytes) b refl t

-- what is left of bytes are bytes
pub rest_are_bytes : (n : ℕ) (bytes : List ℕ) → AreBytes bytes → AreBytes (take (length bytes - n) (drop n bytes))
rest_are_bytes n bytes b = subst AreBytes (sym (rest_at n bytes)) (λ i. subst (λ (x : ℕ). x < 256) (sym (get_or-drop n bytes i 0)) (b (n + i)))
