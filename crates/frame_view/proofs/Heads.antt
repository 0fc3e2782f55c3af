-- A head by its first five bytes, and when more bytes come.
use Rattle.std.proofs.Common.{◌≡◌, ℕ, ◌≤◌, List, [], ◌∷◌, length, take, drop, refl, arith, Option, Some, None}
use Rattle.frame_view.specs.declared.FrameError.{FrameError}
use Rattle.frame_view.specs.declared.Side.{Side}
use Rattle.frame_view.specs.Frames.{AHead, LacksHead, FaultyHead, head_front, head_fault, at_head, number}

at_head-whole : (x : Option FrameError) (kind len k l : ℕ) (rest r more : List ℕ) → at_head x kind len rest ≡ AHead k l r → at_head x kind len more ≡ AHead k l more
at_head-whole None kind len k l rest r more e = cc
at_head-whole (Some fault) kind len k l rest r more e = absurd cc

at_head-faulty : (x : Option FrameError) (kind len : ℕ) (fault : FrameError) (rest more : List ℕ) → at_head x kind len rest ≡ FaultyHead fault → at_head x kind len more ≡ FaultyHead fault
at_head-faulty None kind len fault rest more e = absurd cc
at_head-faulty (Some other) kind len fault rest more e = cc

at_head-lacks : (x : Option FrameError) (kind len n : ℕ) (rest : List ℕ) → at_head x kind len rest ≡ LacksHead n → ⊥
at_head-lacks None kind len n rest e = absurd cc
at_head-lacks (Some fault) kind len n rest e = absurd cc

pub whole-by_five : (side : Side) (limit k l : ℕ) (r bytes : List ℕ) → head_front side limit (take 5 bytes) ≡ AHead k l r → head_front side limit bytes ≡ AHead k l (drop 5 bytes)
whole-by_five side limit k l r (kind ∷ a ∷ b ∷ c ∷ d ∷ rest) e = at_head-whole (head_fault side limit kind (number a b c d)) kind (number a b c d) k l [] r rest e
whole-by_five side limit k l r short e = absurd cc

pub faulty-by_five : (side : Side) (limit : ℕ) (fault : FrameError) (bytes : List ℕ) → head_front side limit (take 5 bytes) ≡ FaultyHead fault → head_front side limit bytes ≡ FaultyHead fault
faulty-by_five side limit fault (kind ∷ a ∷ b ∷ c ∷ d ∷ rest) e = at_head-faulty (head_fault side limit kind (number a b c d)) kind (number a b c d) fault [] rest e
faulty-by_five side limit fault short e = absurd cc

-- where the first five bytes are no head, there are no others
pub lacks-by_five : (side : Side) (limit n : ℕ) (bytes : List ℕ) → head_front side limit (take 5 bytes) ≡ LacksHead n → (head_front side limit bytes ≡ LacksHead n) × (take 5 bytes ≡ bytes)
lacks-by_five side limit n (kind ∷ a ∷ b ∷ c ∷ d ∷ rest) e = absurd (at_head-lacks (head_fault side limit kind (number a b c d)) kind (number a b c d) n [] e)
lacks-by_five side limit n short e = (e, refl)

pub whole-long : (side : Side) (limit k l : ℕ) (r bytes : List ℕ) → head_front side limit bytes ≡ AHead k l r → 5 ≤ length bytes
whole-long side limit k l r (kind ∷ a ∷ b ∷ c ∷ d ∷ rest) e = omega arith
whole-long side limit k l r short e = absurd cc
