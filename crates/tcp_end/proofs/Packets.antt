-- What stands at the front of a packet, and what is put behind it.
use Rattle.std.proofs.Common.{◌≡◌, ℕ, ◌+◌, ◌-◌, ◌≤◌, List, ◌++◌, length, sym, ap, ◌∙◌, take, arith}
use Rattle.std.specs.Prelude.{min}
use Rattle.std.proofs.Math.Seq.{take-append-add}
use Rattle.std.proofs.lemmas.List.{length-take, take_min}
use Rattle.std.proofs.lemmas.Slice.{take-put_mid}
use borrow.Rule.Slice.PartMut.{put_mid}

-- as many bytes as have room are put behind the first `at`
pub put_behind : (at more room k : ℕ) (old new bytes : List ℕ) → at ≤ room → at ≤ length old → more ≡ min (room - at) (length bytes) → new ≡ take more bytes → take (at + more) (put_mid at k old new) ≡ take room (take at old ++ bytes)
put_behind at more room k old new bytes fits long m n =
    take-put_mid at k old new (at + more) (omega (arith, ap length n, length-take more bytes, m)) long
    ∙ (ap (λ (l : List ℕ). take at old ++ l) (n ∙ (ap (λ (c : ℕ). take c bytes) m ∙ take_min (room - at) bytes))
    ∙ sym (ap (λ (c : ℕ). take c (take at old ++ bytes)) (omega (arith, length-take at old, fits, long)) ∙ take-append-add (take at old) bytes (room - at)))
