-- The frames of a client, one after the other.
use Rattle.std.proofs.Common.{◌≡◌, ℕ, ◌+◌, ◌≤◌, false, List, [], ◌∷◌, ◌++◌, length, drop, refl, sym, ap, ◌∙◌, append_assoc, append-nil}
use Rattle.std.specs.List.{flat_map}
use Rattle.std.proofs.lemmas.List.Concat.{flat_map-append}
use Rattle.frame_view.specs.Frames.{FrameOf, spelling, Cut, front}
use Rattle.frame_view.specs.declared.Frame.{Frame}
use Rattle.frame_view.specs.declared.Step.{Step}
use Rattle.frame_view.specs.declared.Step.TheVariants.{Whole}
use Rattle.frame_view.specs.declared.Side.TheVariants.{Client}
use Rattle.frame_view.specs.Answers.{Tells}
use Rattle.frame_view.proofs.Splitting.{frames-stopped}
use Rattle.frame_view.proofs.Taking.{not_whole, taken_at}
use Rattle.session_values.specs.State.{State, CatalogueOf}
use Rattle.session_values.specs.Step.{step, run_frames}
use Rattle.session_values.specs.Answers.{Gave, frame_of}
use Rattle.session_values.specs.Service.{client_frames}

abbrev limit : ℕ
limit = 2147483647

answered-on : (cat : CatalogueOf) (old : State) (f : FrameOf) (fs : List FrameOf) → (run_frames cat old [] (f ∷ fs)).replies ≡ (step cat old false f).replies ++ (run_frames cat (step cat old false f).next [] fs).replies
unfolding run_frames
answered-on cat old f fs = refl

-- one frame more is answered
module _ (cat : CatalogueOf) (old new : State) (bytes : List ℕ) (at : ℕ) (written between total : List ℕ) (frame : Frame) where
  pub frame_answered : at ≤ length bytes → Tells (Whole frame) (drop at bytes) (front Client limit (drop at bytes))
      → Gave new written between (step cat old false (frame_of frame))
      → written ++ flat_map spelling (run_frames cat old [] (client_frames (drop at bytes))).replies ≡ total
      → between ++ flat_map spelling (run_frames cat new [] (client_frames (drop (at + length frame.whole.now) bytes))).replies ≡ total
  frame_answered h t g so_far =
      let k = taken_at Client limit frame bytes at h t in
      let after : List FrameOf = client_frames (drop (at + length frame.whole.now) bytes) in
      let sent : List FrameOf = (step cat old false (frame_of frame)).replies in
      let on : (run_frames cat old [] (client_frames (drop at bytes))).replies ≡ sent ++ (run_frames cat (step cat old false (frame_of frame)).next [] after).replies =
      ap (λ (c : Cut). (run_frames cat old [] c.frames).replies) k.first ∙ answered-on cat old (frame_of frame) after in
      ap (λ (b : List ℕ). b ++ flat_map spelling (run_frames cat new [] after).replies) g.written
      ∙ ap (λ (s : State). (written ++ flat_map spelling sent) ++ flat_map spelling (run_frames cat s [] after).replies) g.next
      ∙ append_assoc written (flat_map spelling sent) (flat_map spelling (run_frames cat (step cat old false (frame_of frame)).next [] after).replies)
      ∙ ap (λ (b : List ℕ). written ++ b) (sym (flat_map-append spelling sent (run_frames cat (step cat old false (frame_of frame)).next [] after).replies))
      ∙ ap (λ (rs : List FrameOf). written ++ flat_map spelling rs) (sym on) ∙ so_far

none-answered : (cat : CatalogueOf) (s : State) (fs : List FrameOf) → fs ≡ [] → flat_map spelling (run_frames cat s [] fs).replies ≡ []
unfolding run_frames
none-answered cat s [] e = refl
none-answered cat s (f ∷ fs) e = absurd cc

-- nothing more is a frame
pub frames_ended : (cat : CatalogueOf) (s : State) (x : Step) (bytes written total : List ℕ) → ((frame : Frame) → x ≡ Whole frame → ⊥) → Tells x bytes (front Client limit bytes)
    → written ++ flat_map spelling (run_frames cat s [] (client_frames bytes)).replies ≡ total → written ≡ total
frames_ended cat s x bytes written total n t so_far =
    let none = ap (λ (c : Cut). c.frames) (frames-stopped Client limit bytes (not_whole x bytes (front Client limit bytes) n t)) in
    sym (append-nil written) ∙ ap (λ (b : List ℕ). written ++ b) (sym (none-answered cat s (client_frames bytes) none)) ∙ so_far
