-- What is known of bytes at whose front a head stands, or less, or a fault.
use Rattle.std.proofs.Common.{◌≡◌, ℕ, ◌+◌, ◌-◌, ◌<◌, ◌≤◌, Bool, true, false, List, [], ◌∷◌, ◌++◌, length, take, refl, ap, ◌∙◌, arith, Option, Some, None}
use Rattle.std.specs.Prelude.{nat_lt, if◌then◌else◌}
use Rattle.std.proofs.lemmas.Bool.{ltb-false}
use Rattle.frame_view.specs.declared.FrameError.{FrameError}
use Rattle.frame_view.specs.declared.FrameError.TheVariants.{TooShort, TooLong, UnknownType}
use Rattle.frame_view.specs.declared.Side.{Side}
use Rattle.frame_view.specs.Frames.{AHead, LacksHead, FaultyHead, head_front, head_fault, at_head, is_type, number}

at-whole : (x : Option FrameError) (kind len k l : ℕ) (rest r : List ℕ) → at_head x kind len rest ≡ AHead k l r → (more : List ℕ) → (at_head x kind len more ≡ AHead k l more) × (rest ≡ r)
at-whole None kind len k l rest r e more = (cc, cc)
at-whole (Some fault) kind len k l rest r e more = absurd cc

at-faulty : (x : Option FrameError) (kind len : ℕ) (fault : FrameError) (rest more : List ℕ) → at_head x kind len rest ≡ FaultyHead fault → at_head x kind len more ≡ FaultyHead fault
at-faulty None kind len fault rest more e = absurd cc
at-faulty (Some other) kind len fault rest more e = cc

at-lacks : (x : Option FrameError) (kind len n : ℕ) (rest : List ℕ) → at_head x kind len rest ≡ LacksHead n → ⊥
at-lacks None kind len n rest e = absurd cc
at-lacks (Some fault) kind len n rest e = absurd cc

at-lawful : (kind len k l : ℕ) (rest r : List ℕ) (t low high : Bool) → nat_lt len 4 ≡ low → at_head (if t then (if low then Some TooShort else (if high then Some TooLong else None)) else Some UnknownType) kind len rest ≡ AHead k l r → 4 ≤ l
at-lawful kind len k l rest r true false false s e = let same : len ≡ l = cc in omega (arith, ltb-false len 4 s, same)
at-lawful kind len k l rest r true false true s e = absurd cc
at-lawful kind len k l rest r true true high s e = absurd cc
at-lawful kind len k l rest r false low high s e = absurd cc

-- ---- a head without fault

pub heads-grow : (side : Side) (limit k l : ℕ) (r bytes more : List ℕ) → head_front side limit bytes ≡ AHead k l r → head_front side limit (bytes ++ more) ≡ AHead k l (r ++ more)
heads-grow side limit k l r (kind ∷ a ∷ b ∷ c ∷ d ∷ rest) more e =
    let x = at-whole (head_fault side limit kind (number a b c d)) kind (number a b c d) k l rest r e (rest ++ more) in
    x.0 ∙ ap (λ (t : List ℕ). AHead k l (t ++ more)) x.1
heads-grow side limit k l r short more e = absurd cc

pub heads-five : (side : Side) (limit k l : ℕ) (r bytes : List ℕ) → head_front side limit bytes ≡ AHead k l r → head_front side limit (take 5 bytes) ≡ AHead k l []
heads-five side limit k l r (kind ∷ a ∷ b ∷ c ∷ d ∷ rest) e = (at-whole (head_fault side limit kind (number a b c d)) kind (number a b c d) k l rest r e []).0
heads-five side limit k l r short e = absurd cc

pub heads-size : (side : Side) (limit k l : ℕ) (r bytes : List ℕ) → head_front side limit bytes ≡ AHead k l r → length bytes ≡ 5 + length r
heads-size side limit k l r (kind ∷ a ∷ b ∷ c ∷ d ∷ rest) e =
    omega (arith, ap length (at-whole (head_fault side limit kind (number a b c d)) kind (number a b c d) k l rest r e []).1)
heads-size side limit k l r short e = absurd cc

pub heads-lawful : (side : Side) (limit k l : ℕ) (r bytes : List ℕ) → head_front side limit bytes ≡ AHead k l r → 4 ≤ l
heads-lawful side limit k l r (kind ∷ a ∷ b ∷ c ∷ d ∷ rest) e =
    at-lawful kind (number a b c d) k l rest r (is_type side kind) (nat_lt (number a b c d) 4) (nat_lt limit (number a b c d)) refl e
heads-lawful side limit k l r short e = absurd cc

-- ---- a fault, and less than a head

pub faults-grow : (side : Side) (limit : ℕ) (fault : FrameError) (bytes more : List ℕ) → head_front side limit bytes ≡ FaultyHead fault → head_front side limit (bytes ++ more) ≡ FaultyHead fault
faults-grow side limit fault (kind ∷ a ∷ b ∷ c ∷ d ∷ rest) more e = at-faulty (head_fault side limit kind (number a b c d)) kind (number a b c d) fault rest (rest ++ more) e
faults-grow side limit fault short more e = absurd cc

pub lacks-short : (side : Side) (limit n : ℕ) (bytes : List ℕ) → head_front side limit bytes ≡ LacksHead n → length bytes < 5
lacks-short side limit n (kind ∷ a ∷ b ∷ c ∷ d ∷ rest) e = absurd (at-lacks (head_fault side limit kind (number a b c d)) kind (number a b c d) n rest e)
lacks-short side limit n short e = omega arith

pub short-lacks : (side : Side) (limit : ℕ) (bytes : List ℕ) → length bytes < 5 → head_front side limit bytes ≡ LacksHead (5 - length bytes)
short-lacks side limit (kind ∷ a ∷ b ∷ c ∷ d ∷ rest) h = absurd (omega arith)
short-lacks side limit short h = refl
