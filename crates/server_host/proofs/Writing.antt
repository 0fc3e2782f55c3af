-- A text that is written into the front of zeros.
use Rattle.std.proofs.Common.{◌≡◌, ◌≤◌, ◌+◌, ◌-◌, ◌++◌, ℕ, List, length, take, drop, refl, sym, ap, ap₂, ◌∙◌}
use Rattle.std.specs.Prelude.{replicate}
use Rattle.std.proofs.lemmas.List.{drop-replicate}
use Rattle.std.proofs.Math.Seq.{take-append_seam}

pub front : (text : List ℕ) → take (length text) (text ++ drop (length text) (replicate 255 0)) ≡ text
front text = take-append_seam text (drop (length text) (replicate 255 0))

pub counted : (text : List ℕ) → length (take (length text) (text ++ drop (length text) (replicate 255 0))) ≡ length text
counted text = ap length (front text)

pub filled : (text : List ℕ) → text ++ drop (length text) (replicate 255 0) ≡ take (length text) (text ++ drop (length text) (replicate 255 0)) ++ replicate (255 - length text) 0
filled text = rw (front text, drop-replicate {X = ℕ} (length text) 255 0) refl
