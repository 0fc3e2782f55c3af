-- What stands at the front as a first packet when more bytes come.
use Rattle.std.proofs.Common.{◌≡◌, ℕ, ◌+◌, ◌-◌, ◌<◌, ◌≤◌, List, ◌∷◌, ◌++◌, length, take, drop, refl, ap, arith, ◌∙◌, length-drop, length-append, Bool, true, false}
use Rattle.std.specs.Prelude.{nat_lt, if◌then◌else◌, ◌==◌}
use Rattle.std.proofs.lemmas.Bool.{le-ltb, ltb-false, ltb-true}
use Rattle.std.proofs.lemmas.List.{take-append-le, drop-append-le}
use Rattle.frame_view.specs.declared.first.TheConstants.{PROTOCOL_3_0, CANCEL_REQUEST, SSL_REQUEST, GSSENC_REQUEST, MAX_FIRST_PACKET}
use Rattle.frame_view.specs.declared.FrameError.{FrameError}
use Rattle.frame_view.specs.declared.FrameError.TheVariants.{TooShort, TooLong, UnknownCode}
use Rattle.frame_view.specs.Frames.{number, FirstOf, Start, Cancels, AsksTls, AsksGss, first_spelling, FirstFront, AFirst, LacksFirst, FaultyFirst, after_code, cancel_of, at_code, first_front}
use Rattle.frame_view.specs.Laws.{GrowsFirst}
use Rattle.frame_view.proofs.FirstPackets.{after-code, after_code-whole, start-fits, cancel-fits, at_code-fits, first-fits}

first-lacks : (n : ℕ) (new : FirstFront) (here : ℕ) (more : List ℕ) → 0 < n
    → ((p : FirstOf) (rest : List ℕ) → new ≡ AFirst p rest → n + length rest ≤ length more) → here + n ≤ MAX_FIRST_PACKET → GrowsFirst (LacksFirst n) new here more
first-lacks n new here more some own room = record {
  whole = λ p r e. absurd cc;
  fits = λ p r e. absurd cc;
  fault = λ f e. absurd cc;
  some = λ m e. let s : n ≡ m = cc in omega (arith, s, some);
  own = λ m p r e w. let s : n ≡ m = cc in omega (arith, s, own p r w);
  room = λ m e. let s : n ≡ m = cc in omega (arith, s, room);
}

first-faulty : (f : FrameError) (here : ℕ) (more : List ℕ) → GrowsFirst (FaultyFirst f) (FaultyFirst f) here more
first-faulty f here more = record {
  whole = λ p r e. absurd cc;
  fits = λ p r e. absurd cc;
  fault = λ g e. e;
  some = λ n e. absurd cc;
  own = λ n p r e w. absurd cc;
  room = λ n e. absurd cc;
}

first-whole : (p : FirstOf) (rest : List ℕ) (new : FirstFront) (here : ℕ) (more : List ℕ) → new ≡ AFirst p (rest ++ more) → here ≡ length (first_spelling p) + length rest → GrowsFirst (AFirst p rest) new here more
first-whole p rest new here more new-is size = record {
  whole = λ q r e. let x : p ≡ q = cc in let z : rest ≡ r = cc in rw (← x, ← z) new-is;
  fits = λ q r e. let x : p ≡ q = cc in let z : rest ≡ r = cc in rw (← x, ← z) size;
  fault = λ g e. absurd cc;
  some = λ n e. absurd cc;
  own = λ n q r e w. absurd cc;
  room = λ n e. absurd cc;
}

after_code-grows : (size : ℕ) (asks : List ℕ → FirstOf) (text more : List ℕ) (here : ℕ) (short : Bool) → 8 + size ≤ MAX_FIRST_PACKET → here ≡ 8 + length text
    → ((p : FirstOf) (rest : List ℕ) → after_code size asks text ≡ AFirst p rest → 8 + length text ≡ length (first_spelling p) + length rest) → nat_lt (length text) size ≡ short
    → GrowsFirst (if short then LacksFirst (size - length text) else AFirst (asks (take size text)) (drop size text)) (after_code size asks (text ++ more)) here more
after_code-grows size asks text more here true low here-is fits t =
    let lt : length text < size = ltb-true _ _ t in
    let all : length (text ++ more) ≡ length text + length more = length-append text more in
    first-lacks (size - length text) (after_code size asks (text ++ more)) here more (omega arith)
    (λ p r e. let g = after-code size asks (text ++ more) p r (nat_lt (length (text ++ more)) size) refl e in omega (arith, all, lt, g.2, ap length g.1, length-drop size (text ++ more)))
    (omega arith)
after_code-grows size asks text more here false low here-is fits t =
    let le : size ≤ length text = ltb-false _ _ t in
    let whole : nat_lt (length (text ++ more)) size ≡ false = le-ltb _ _ (omega (arith, le, length-append text more)) in
    let front-is : take size (text ++ more) ≡ take size text = take-append-le _ _ _ le in
    let back-is : drop size (text ++ more) ≡ drop size text ++ more = drop-append-le _ _ _ le in
    first-whole (asks (take size text)) (drop size text) (after_code size asks (text ++ more)) here more (rw (whole, front-is, back-is) refl)
    (here-is ∙ fits (asks (take size text)) (drop size text) (after_code-whole size asks text le))

code-grows : (len : ℕ) (text more : List ℕ) (here : ℕ) (s c t g l16 l8 : Bool) → 8 ≤ len → len ≤ MAX_FIRST_PACKET → here ≡ 8 + length text
    → GrowsFirst
    (if s then after_code (len - 8) Start text else (if c then (if l16 then after_code 8 cancel_of text else FaultyFirst TooShort) else (if t then (if l8 then AFirst AsksTls text else FaultyFirst TooShort) else (if g then (if l8 then AFirst AsksGss text else FaultyFirst TooShort) else FaultyFirst UnknownCode))))
    (if s then after_code (len - 8) Start (text ++ more) else (if c then (if l16 then after_code 8 cancel_of (text ++ more) else FaultyFirst TooShort) else (if t then (if l8 then AFirst AsksTls (text ++ more) else FaultyFirst TooShort) else (if g then (if l8 then AFirst AsksGss (text ++ more) else FaultyFirst TooShort) else FaultyFirst UnknownCode))))
    here more
code-grows len text more here true c t g l16 l8 low high e = after_code-grows (len - 8) Start text more here (nat_lt (length text) (len - 8)) (omega arith) e (start-fits (len - 8) text) refl
code-grows len text more here false true t g true l8 low high e = after_code-grows 8 cancel_of text more here (nat_lt (length text) 8) (omega arith) e (cancel-fits text) refl
code-grows len text more here false true t g false l8 low high e = first-faulty _ _ _
code-grows len text more here false false true g l16 true low high e = first-whole AsksTls text _ here more refl e
code-grows len text more here false false true g l16 false low high e = first-faulty _ _ _
code-grows len text more here false false false true l16 true low high e = first-whole AsksGss text _ here more refl e
code-grows len text more here false false false true l16 false low high e = first-faulty _ _ _
code-grows len text more here false false false false l16 l8 low high e = first-faulty _ _ _

eight : (p : FirstOf) → 8 ≤ length (first_spelling p)
eight (Start text) = omega arith
eight (Cancels pid secret) = omega arith
eight AsksTls = omega arith
eight AsksGss = omega arith

at_code-short : (len : ℕ) (after more : List ℕ) (here : ℕ) → length after < 4 → here ≡ 4 + length after → GrowsFirst (LacksFirst (4 - length after)) (at_code len (after ++ more)) here more
at_code-short len after more here short e =
    first-lacks (4 - length after) (at_code len (after ++ more)) here more (omega arith)
    (λ p r w. omega (arith, at_code-fits len (after ++ more) p r w, eight p, length-append after more))
    (omega arith)

at_code-grows : (len : ℕ) (after more : List ℕ) (here : ℕ) → 8 ≤ len → len ≤ MAX_FIRST_PACKET → here ≡ 4 + length after → GrowsFirst (at_code len after) (at_code len (after ++ more)) here more
at_code-grows len (e ∷ f ∷ g ∷ h ∷ text) more here low high is =
    let code : ℕ = number e f g h in
    code-grows len text more here (code == PROTOCOL_3_0) (code == CANCEL_REQUEST) (code == SSL_REQUEST) (code == GSSENC_REQUEST) (len == 16) (len == 8) low high (omega (arith, is))
at_code-grows len short more here low high is = at_code-short len short more here (omega arith) is

length-grows : (len : ℕ) (after more : List ℕ) (here : ℕ) (low high : Bool) → nat_lt len 8 ≡ low → nat_lt MAX_FIRST_PACKET len ≡ high → here ≡ 4 + length after
    → GrowsFirst
    (if low then FaultyFirst TooShort else (if high then FaultyFirst TooLong else at_code len after))
    (if low then FaultyFirst TooShort else (if high then FaultyFirst TooLong else at_code len (after ++ more)))
    here more
length-grows len after more here true high l h e = first-faulty _ _ _
length-grows len after more here false true l h e = first-faulty _ _ _
length-grows len after more here false false l h e = at_code-grows len after more here (ltb-false _ _ l) (ltb-false _ _ h) e

first-short : (bytes more : List ℕ) → length bytes < 4 → GrowsFirst (LacksFirst (8 - length bytes)) (first_front (bytes ++ more)) (length bytes) more
first-short bytes more short =
    first-lacks (8 - length bytes) (first_front (bytes ++ more)) (length bytes) more (omega arith)
    (λ p r w. omega (arith, first-fits (bytes ++ more) p r w, eight p, length-append bytes more))
    (omega arith)

pub first-grows : (bytes more : List ℕ) → GrowsFirst (first_front bytes) (first_front (bytes ++ more)) (length bytes) more
first-grows (a ∷ b ∷ c ∷ d ∷ after) more =
    let len : ℕ = number a b c d in
    length-grows len after more _ (nat_lt len 8) (nat_lt MAX_FIRST_PACKET len) refl refl (omega arith)
first-grows short more = first-short short more (omega arith)
