-- A startup message that is handed out stands at the front of the bytes.
use Rattle.std.proofs.Common.{◌≡◌, ℕ, ◌+◌, ◌≤◌, List, length, drop, refl, sym, ap, ◌∙◌, arith}
use Rattle.std.proofs.Math.Seq.{drop-append_seam}
use Rattle.std.specs.Borrow.{Bor}
use Rattle.frame_view.specs.Frames.{AreBytes, FirstFront, AFirst, LacksFirst, FaultyFirst, Start, Cancels, AsksTls, AsksGss, first_front, first_spelling}
use Rattle.frame_view.specs.declared.FirstStep.TheVariants as first
use Rattle.frame_view.specs.Answers.{TellsFirst}
use Rattle.frame_view.proofs.FirstPackets.{first-fits, first-spelled}

-- what is known of a startup message that is handed out of bytes
pub record Started (part : Bor (List ℕ)) (bytes : List ℕ) : Type 0 where
  pub first : first_front bytes ≡ AFirst (Start part.now) (drop (8 + length part.now) bytes)
  pub within : 8 + length part.now ≤ length bytes

started-at : (part : Bor (List ℕ)) (bytes : List ℕ) (f : FirstFront) → AreBytes bytes → first_front bytes ≡ f → TellsFirst (first.Startup part) f → Started part bytes
started-at part bytes (AFirst (Start text) rest) fit e t =
    let spelled = first-spelled bytes (Start text) rest fit e in
    let size : length (first_spelling (Start text)) ≡ 8 + length part.now = omega (arith, ap length t) in
    let after : drop (8 + length part.now) bytes ≡ rest =
    ap (λ (n : ℕ). drop n bytes) (sym size) ∙ ap (λ (bs : List ℕ). drop (length (first_spelling (Start text))) bs) spelled.0 ∙ drop-append_seam (first_spelling (Start text)) rest in
    record {
      first = e ∙ ap (λ (x : List ℕ). AFirst (Start x) rest) (sym t) ∙ ap (λ (r : List ℕ). AFirst (Start part.now) r) (sym after);
      within = omega (arith, first-fits bytes (Start text) rest e, size);
    }
started-at part bytes (AFirst (Cancels p s) rest) fit e t = absurd t
started-at part bytes (AFirst AsksTls rest) fit e t = absurd t
started-at part bytes (AFirst AsksGss rest) fit e t = absurd t
started-at part bytes (LacksFirst n) fit e t = absurd t
started-at part bytes (FaultyFirst f) fit e t = absurd t

pub started : (part : Bor (List ℕ)) (bytes : List ℕ) → AreBytes bytes → TellsFirst (first.Startup part) (first_front bytes) → Started part bytes
started part bytes fit t = started-at part bytes (first_front bytes) fit refl t
