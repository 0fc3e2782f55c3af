-- A frame that is handed out is the first of the frames, and the bytes after it have the others.
use Rattle.std.proofs.Common.{◌≡◌, ℕ, suc, ◌+◌, ◌≤◌, List, [], ◌∷◌, length, drop, refl, sym, ap, ◌∙◌, arith, length-append, length-drop}
use Rattle.std.proofs.lemmas.List.{drop-drop}
use Rattle.frame_view.specs.Frames.{Front, AFrame, Lacks, Faulty, FrameOf, Cut, Stops, before, cut_after, front, frames}
use Rattle.frame_view.specs.declared.Frame.{Frame}
use Rattle.frame_view.specs.declared.Step.{Step}
use Rattle.frame_view.specs.declared.Step.TheVariants.{Whole, Need, Bad}
use Rattle.frame_view.specs.declared.Side.{Side}
use Rattle.frame_view.specs.Answers.{Tells}
use Rattle.frame_view.proofs.Cuts.{cut_after-drop, front-fits}

-- the frames of bytes at whose front a frame stands
pub frames-front : (side : Side) (limit : ℕ) (bytes : List ℕ) (k : ℕ) (body rest : List ℕ) → front side limit bytes ≡ AFrame k body rest
    → frames side limit bytes ≡ before (record { kind = k; body = body }) (frames side limit (drop (5 + length body) bytes))
unfolding cut_after
frames-front side limit [] k body rest e = absurd cc
frames-front side limit (b ∷ bytes) k body rest e =
    let pick : Front → Cut = λ x. elim x [
      | AFrame kind text more ↦ before (record { kind = kind; body = text }) (cut_after side limit (4 + length text) bytes)
      | Lacks n ↦ record { frames = []; rest = b ∷ bytes }
      | Faulty fault ↦ record { frames = []; rest = b ∷ bytes }
    ] in
    let n : 5 + length body ≡ suc (4 + length body) = omega arith in
    let one : drop (4 + length body) bytes ≡ drop (5 + length body) (b ∷ bytes) = ap (λ (i : ℕ). drop i (b ∷ bytes)) (sym n) in
    ap pick e ∙ ap (before (record { kind = k; body = body })) (cut_after-drop side limit (4 + length body) bytes ∙ ap (λ (bs : List ℕ). cut_after side limit 0 bs) one)

-- a frame without where it lies
abbrev pub plain : Frame → FrameOf
plain frame = record { kind = frame.kind; body = frame.body.now }

-- what is known of a frame that is handed out of bytes
pub record Taken (side : Side) (limit : ℕ) (frame : Frame) (bytes : List ℕ) : Type 0 where
  pub first : frames side limit bytes ≡ before (plain frame) (frames side limit (drop (length frame.whole.now) bytes))
  pub within : length frame.whole.now ≤ length bytes
  pub some : 5 ≤ length frame.whole.now

taken-at : (side : Side) (limit : ℕ) (frame : Frame) (bytes : List ℕ) (f : Front) → front side limit bytes ≡ f → Tells (Whole frame) bytes f → Taken side limit frame bytes
taken-at side limit frame bytes (AFrame k body rest) e t =
    let size : length frame.whole.now ≡ 5 + length body = sizes (length frame.whole.now) (length rest) (length bytes) (length body) (sym (length-append frame.whole.now rest) ∙ ap length t.whole_is) (front-fits side limit bytes k body rest e) in
    let one : record { kind = k; body = body } ≡ plain frame = made k body frame (sym t.kind_is) (sym t.body_is) in
    record {
      first = frames-front side limit bytes k body rest e ∙ ap (λ (f : FrameOf). before f (frames side limit (drop (5 + length body) bytes))) one
          ∙ ap (λ (n : ℕ). before (plain frame) (frames side limit (drop n bytes))) (sym size);
      within = omega (arith, size, front-fits side limit bytes k body rest e);
      some = omega (arith, size);
    }
  where
    sizes : (w r b n : ℕ) → w + r ≡ b → b ≡ 5 + n + r → w ≡ 5 + n
    sizes w r b n x y = omega (arith, x, y)

    made : (k : ℕ) (body : List ℕ) (frame : Frame) → k ≡ frame.kind → body ≡ frame.body.now → record { kind = k; body = body } ≡ plain frame
    made k body frame x y = rw (x, y) refl
taken-at side limit frame bytes (Lacks n) e t = absurd t
taken-at side limit frame bytes (Faulty f) e t = absurd t

pub taken : (side : Side) (limit : ℕ) (frame : Frame) (bytes : List ℕ) → Tells (Whole frame) bytes (front side limit bytes) → Taken side limit frame bytes
taken side limit frame bytes t = taken-at side limit frame bytes (front side limit bytes) refl t

-- the same at a place of the bytes
pub record TakenAt (side : Side) (limit : ℕ) (frame : Frame) (bytes : List ℕ) (at : ℕ) : Type 0 where
  pub first : frames side limit (drop at bytes) ≡ before (plain frame) (frames side limit (drop (at + length frame.whole.now) bytes))
  pub within : at + length frame.whole.now ≤ length bytes
  pub some : 5 ≤ length frame.whole.now

pub taken_at : (side : Side) (limit : ℕ) (frame : Frame) (bytes : List ℕ) (at : ℕ) → at ≤ length bytes → Tells (Whole frame) (drop at bytes) (front side limit (drop at bytes)) → TakenAt side limit frame bytes at
taken_at side limit frame bytes at h t =
    let k = taken side limit frame (drop at bytes) t in
    record {
      first = k.first ∙ ap (λ (bs : List ℕ). before (plain frame) (frames side limit bs)) (drop-drop (length frame.whole.now) at bytes);
      within = omega (arith, k.within, length-drop at bytes, h);
      some = k.some;
    }

-- where no frame is handed out the frames stop
pub not_whole : (x : Step) (bytes : List ℕ) (f : Front) → ((frame : Frame) → x ≡ Whole frame → ⊥) → Tells x bytes f → Stops f
not_whole (Whole frame) bytes f n t = absurd (n frame refl)
not_whole (Need n) bytes (AFrame k body rest) m t = t
not_whole (Need n) bytes (Lacks l) m t = tt
not_whole (Need n) bytes (Faulty f) m t = tt
not_whole (Bad x) bytes (AFrame k body rest) m t = t
not_whole (Bad x) bytes (Lacks l) m t = tt
not_whole (Bad x) bytes (Faulty f) m t = tt
