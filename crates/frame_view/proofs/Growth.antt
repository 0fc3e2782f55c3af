-- What stands at the front when more bytes come.
use Rattle.std.proofs.Common.{◌≡◌, ℕ, ◌+◌, ◌-◌, ◌<◌, ◌≤◌, List, ◌∷◌, ◌++◌, length, take, drop, refl, ap, arith, ◌∙◌, length-drop, length-append, length-take, Bool, true, false, Some, None}
use Rattle.std.specs.Prelude.{nat_lt, if◌then◌else◌}
use Rattle.std.proofs.lemmas.Bool.{le-ltb, lt-ltb, ltb-false, ltb-true}
use Rattle.std.proofs.lemmas.List.{take-append-le, drop-append-le}
use Rattle.frame_view.specs.declared.Side.{Side}
use Rattle.frame_view.specs.declared.FrameError.{FrameError}
use Rattle.frame_view.specs.declared.FrameError.TheVariants.{UnknownType, TooShort, TooLong}
use Rattle.frame_view.specs.Frames.{Front, AFrame, Lacks, Faulty, front, at_head, with_body, after_head, number, is_type}
use Rattle.frame_view.specs.Laws.{Grows}
use Rattle.frame_view.proofs.Cuts.{after-frame, front-fits}

grows-lacks : (limit n : ℕ) (new : Front) (here : ℕ) (more : List ℕ) → 0 < n → (length more < n → new ≡ Lacks (n - length more))
    → ((kind : ℕ) (body rest : List ℕ) → new ≡ AFrame kind body rest → n + length rest ≤ length more) → (4 ≤ limit → here + n ≤ limit + 1) → Grows limit (Lacks n) new here more
grows-lacks limit n new here more some still own room = record {
  whole = λ k b r e. absurd cc;
  fits = λ k b r e. absurd cc;
  fault = λ f e. absurd cc;
  some = λ m e. let s : n ≡ m = cc in omega (arith, s, some);
  still = λ m e l. let s : n ≡ m = cc in rw (← s) (still (omega (arith, s, l)));
  own = λ m k b r e w. let s : n ≡ m = cc in omega (arith, s, own k b r w);
  room = λ m e l. let s : n ≡ m = cc in omega (arith, s, room l);
}

grows-faulty : (limit : ℕ) (f : FrameError) (here : ℕ) (more : List ℕ) → Grows limit (Faulty f) (Faulty f) here more
grows-faulty limit f here more = record {
  whole = λ k b r e. absurd cc;
  fits = λ k b r e. absurd cc;
  fault = λ g e. e;
  some = λ n e. absurd cc;
  still = λ n e l. absurd cc;
  own = λ n k b r e w. absurd cc;
  room = λ n e l. absurd cc;
}

grows-whole : (limit kind : ℕ) (body rest : List ℕ) (new : Front) (here : ℕ) (more : List ℕ) → new ≡ AFrame kind body (rest ++ more) → here ≡ 5 + length body + length rest → Grows limit (AFrame kind body rest) new here more
grows-whole limit kind body rest new here more new-is size = record {
  whole = λ k b r e. let x : kind ≡ k = cc in let y : body ≡ b = cc in let z : rest ≡ r = cc in rw (← x, ← y, ← z) new-is;
  fits = λ k b r e. let y : body ≡ b = cc in let z : rest ≡ r = cc in rw (← y, ← z) size;
  fault = λ g e. absurd cc;
  some = λ n e. absurd cc;
  still = λ n e l. absurd cc;
  own = λ n k b r e w. absurd cc;
  room = λ n e l. absurd cc;
}

after_head-short : (kind size : ℕ) (rest : List ℕ) → length rest < size → after_head kind size rest ≡ Lacks (size - length rest)
after_head-short kind size rest h = let t : nat_lt (length rest) size ≡ true = lt-ltb _ _ h in rw t refl

after_head-grows : (limit kind size : ℕ) (rest more : List ℕ) (here : ℕ) (short : Bool) → 4 + size ≤ limit → here ≡ 5 + length rest → nat_lt (length rest) size ≡ short
    → Grows limit (if short then Lacks (size - length rest) else AFrame kind (take size rest) (drop size rest)) (after_head kind size (rest ++ more)) here more
after_head-grows limit kind size rest more here true low here-is t =
    let lt : length rest < size = ltb-true _ _ t in
    let all : length (rest ++ more) ≡ length rest + length more = length-append rest more in
    let left : size - length (rest ++ more) ≡ size - length rest - length more = omega (arith, all) in
    grows-lacks limit (size - length rest) (after_head kind size (rest ++ more)) here more (omega arith)
    (λ l. after_head-short kind size (rest ++ more) (omega (arith, all, l)) ∙ ap Lacks left)
    (λ k b r e. let g = after-frame kind size (rest ++ more) k b r (nat_lt (length (rest ++ more)) size) refl e in omega (arith, all, lt, g.3, ap length g.2, length-drop size (rest ++ more)))
    (λ l. omega arith)
after_head-grows limit kind size rest more here false low here-is t =
    let le : size ≤ length rest = ltb-false _ _ t in
    let whole : nat_lt (length (rest ++ more)) size ≡ false = le-ltb _ _ (omega (arith, le, length-append rest more)) in
    let front-is : take size (rest ++ more) ≡ take size rest = take-append-le _ _ _ le in
    let back-is : drop size (rest ++ more) ≡ drop size rest ++ more = drop-append-le _ _ _ le in
    grows-whole limit kind (take size rest) (drop size rest) (after_head kind size (rest ++ more)) here more (rw (whole, front-is, back-is) refl) (omega (arith, le, here-is, length-take size rest, length-drop size rest))

at_head-grows : (limit kind len : ℕ) (rest more : List ℕ) (here : ℕ) (t low high : Bool) → here ≡ 5 + length rest → nat_lt len 4 ≡ low → nat_lt limit len ≡ high
    → Grows limit
    (with_body (at_head (if t then (if low then Some TooShort else (if high then Some TooLong else None)) else Some UnknownType) kind len rest))
    (with_body (at_head (if t then (if low then Some TooShort else (if high then Some TooLong else None)) else Some UnknownType) kind len (rest ++ more)))
    here more
at_head-grows limit kind len rest more here false low high e l h = grows-faulty _ _ _ _
at_head-grows limit kind len rest more here true true high e l h = grows-faulty _ _ _ _
at_head-grows limit kind len rest more here true false true e l h = grows-faulty _ _ _ _
at_head-grows limit kind len rest more here true false false e l h = after_head-grows limit kind (len - 4) rest more here (nat_lt (length rest) (len - 4)) (omega (arith, ltb-false _ _ l, ltb-false _ _ h)) e refl

pub front-short : (side : Side) (limit : ℕ) (bytes : List ℕ) → length bytes < 5 → front side limit bytes ≡ Lacks (5 - length bytes)
front-short side limit (k ∷ a ∷ b ∷ c ∷ d ∷ rest) h = absurd (omega arith)
front-short side limit short h = refl

short-grows : (side : Side) (limit : ℕ) (bytes more : List ℕ) → length bytes < 5 → Grows limit (Lacks (5 - length bytes)) (front side limit (bytes ++ more)) (length bytes) more
short-grows side limit bytes more h =
    let all : length (bytes ++ more) ≡ length bytes + length more = length-append bytes more in
    let left : 5 - length (bytes ++ more) ≡ 5 - length bytes - length more = omega (arith, all) in
    grows-lacks limit (5 - length bytes) (front side limit (bytes ++ more)) (length bytes) more (omega arith)
    (λ l. front-short side limit (bytes ++ more) (omega (arith, all, l)) ∙ ap Lacks left)
    (λ k b r e. omega (arith, all, front-fits side limit (bytes ++ more) k b r e))
    (λ l. omega arith)

pub front-grows : (side : Side) (limit : ℕ) (bytes more : List ℕ) → Grows limit (front side limit bytes) (front side limit (bytes ++ more)) (length bytes) more
front-grows side limit (k ∷ a ∷ b ∷ c ∷ d ∷ rest) more =
    let n : ℕ = number a b c d in
    at_head-grows limit k n rest more _ (is_type side k) (nat_lt n 4) (nat_lt limit n) (omega arith) refl refl
front-grows side limit short more = short-grows side limit short more (omega arith)
