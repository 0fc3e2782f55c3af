-- A first packet's spelling is read again, and what is read is spelled so.
use Rattle.std.proofs.Common.{◌≡◌, ℕ, suc, ◌+◌, ◌-◌, ◌^◌, ◌<◌, ◌≤◌, List, [], ◌∷◌, ◌++◌, length, get_or, take, drop, refl, sym, ap, arith, ◌∙◌, length-drop, length-append, length-take, Bool, true, false}
use Rattle.std.specs.Prelude.{nat_lt, if◌then◌else◌, ◌==◌}
use Rattle.std.specs.Int.{w32, to_be_bytes}
use Rattle.std.proofs.lemmas.Bool.{le-ltb, ltb-false, eqb-true}
use Rattle.std.proofs.lemmas.List.{take-append-drop}
use Rattle.std.proofs.Math.Seq.{take-append_seam, drop-append_seam}
use Rattle.frame_view.specs.declared.first.TheConstants.{PROTOCOL_3_0, CANCEL_REQUEST, SSL_REQUEST, GSSENC_REQUEST, MAX_FIRST_PACKET}
use Rattle.frame_view.specs.declared.FrameError.TheVariants.{TooShort, TooLong, UnknownCode}
use Rattle.frame_view.specs.Frames.{AreBytes, number, FirstOf, Start, Cancels, AsksTls, AsksGss, first_spelling, IsFirst, AFirst, LacksFirst, FaultyFirst, after_code, cancel_of, at_code, of_length, first_front}
use Rattle.frame_view.proofs.FourBytes.{number-bytes, bytes-number}

of_length-lawful : (len : ℕ) (rest : List ℕ) → 8 ≤ len → len ≤ MAX_FIRST_PACKET → of_length len rest ≡ at_code len rest
of_length-lawful len rest low high =
    let a : nat_lt len 8 ≡ false = le-ltb _ _ low in
    let b : nat_lt MAX_FIRST_PACKET len ≡ false = le-ltb _ _ high in
    rw (a, b) refl

pub after_code-whole : (size : ℕ) (asks : List ℕ → FirstOf) (rest : List ℕ) → size ≤ length rest → after_code size asks rest ≡ AFirst (asks (take size rest)) (drop size rest)
after_code-whole size asks rest h = let a : nat_lt (length rest) size ≡ false = le-ltb _ _ h in rw a refl

pub first-spelling : (p : FirstOf) (rest : List ℕ) → IsFirst p → first_front (first_spelling p ++ rest) ≡ AFirst p rest
first-spelling (Start text) rest h =
    let code : List ℕ = to_be_bytes w32 PROTOCOL_3_0 in
    let size : 8 + length text - 8 ≡ length text = omega arith in
    let whole = after_code-whole (length text) Start (text ++ rest) (omega (arith, length-append text rest)) in
    ap (λ (n : ℕ). of_length n (code ++ text ++ rest)) (number-bytes (8 + length text) (omega (arith, h)))
    ∙ of_length-lawful (8 + length text) (code ++ text ++ rest) (omega arith) h
    ∙ ap (λ (n : ℕ). after_code n Start (text ++ rest)) size
    ∙ whole ∙ rw (take-append_seam text rest, drop-append_seam text rest) refl
first-spelling (Cancels pid secret) rest h =
    let words : List ℕ = to_be_bytes w32 pid ++ to_be_bytes w32 secret in
    let whole = after_code-whole 8 cancel_of (words ++ rest) (omega (arith, length-append words rest)) in
    whole ∙ ap (λ (n : ℕ). AFirst (Cancels n (number (get_or (to_be_bytes w32 secret) 0 0) (get_or (to_be_bytes w32 secret) 1 0) (get_or (to_be_bytes w32 secret) 2 0) (get_or (to_be_bytes w32 secret) 3 0))) rest) (number-bytes pid h.0)
    ∙ ap (λ (n : ℕ). AFirst (Cancels pid n) rest) (number-bytes secret h.1)
first-spelling AsksTls rest h = refl
first-spelling AsksGss rest h = refl

-- ---- what is read is spelled so

-- what after_code answers as a packet
pub after-code : (size : ℕ) (asks : List ℕ → FirstOf) (rest : List ℕ) (p : FirstOf) (more : List ℕ) (b : Bool) → nat_lt (length rest) size ≡ b
    → (if b then LacksFirst (size - length rest) else AFirst (asks (take size rest)) (drop size rest)) ≡ AFirst p more
    → (asks (take size rest) ≡ p) × (drop size rest ≡ more) × (size ≤ length rest)
after-code size asks rest p more true t e = absurd cc
after-code size asks rest p more false t e = (cc, cc, ltb-false _ _ t)

-- a length, a code and what follows them are the spelling of a packet and the rest
abbrev Spelled : ℕ → ℕ → List ℕ → FirstOf → List ℕ → Type 0
Spelled len code text p rest = (to_be_bytes w32 len ++ to_be_bytes w32 code ++ text ≡ first_spelling p ++ rest) × IsFirst p

start-spelled : (len : ℕ) (text : List ℕ) (p : FirstOf) (rest : List ℕ) → 8 ≤ len → len ≤ MAX_FIRST_PACKET → after_code (len - 8) Start text ≡ AFirst p rest → Spelled len PROTOCOL_3_0 text p rest
start-spelled len text p rest low high e =
    let g = after-code (len - 8) Start text p rest (nat_lt (length text) (len - 8)) refl e in
    let body : List ℕ = take (len - 8) text in
    let left : List ℕ = drop (len - 8) text in
    let size : 8 + length body ≡ len = omega (arith, length-take (len - 8) text, g.2, low) in
    let code : List ℕ = to_be_bytes w32 PROTOCOL_3_0 in
    let parts = ap (λ (t : List ℕ). to_be_bytes w32 len ++ code ++ t) (sym (take-append-drop (len - 8) text)) in
    let sized = ap (λ (n : ℕ). to_be_bytes w32 n ++ code ++ body ++ left) (sym size) in
    let bound : 8 + length body ≤ MAX_FIRST_PACKET = omega (arith, size, high) in
    let is : Spelled len PROTOCOL_3_0 text (Start body) left = (parts ∙ sized, bound) in
    rw (← g.0, ← g.1) is

cancel-spelled : (text : List ℕ) (p : FirstOf) (rest : List ℕ) → AreBytes text → after_code 8 cancel_of text ≡ AFirst p rest → Spelled 16 CANCEL_REQUEST text p rest
cancel-spelled (a ∷ b ∷ c ∷ d ∷ e ∷ f ∷ g ∷ h ∷ left) p rest fit is =
    let q = after-code 8 cancel_of (a ∷ b ∷ c ∷ d ∷ e ∷ f ∷ g ∷ h ∷ left) p rest (nat_lt (length (a ∷ b ∷ c ∷ d ∷ e ∷ f ∷ g ∷ h ∷ left)) 8) refl is in
    let pid : ℕ = number a b c d in
    let secret : ℕ = number e f g h in
    let first : to_be_bytes w32 pid ≡ a ∷ b ∷ c ∷ d ∷ [] = bytes-number pid a b c d refl (fit 0) (fit 1) (fit 2) (fit 3) in
    let second : to_be_bytes w32 secret ≡ e ∷ f ∷ g ∷ h ∷ [] = bytes-number secret e f g h refl (fit 4) (fit 5) (fit 6) (fit 7) in
    let head : List ℕ = to_be_bytes w32 16 ++ to_be_bytes w32 CANCEL_REQUEST in
    let one = ap (λ (t : List ℕ). head ++ (t ++ (e ∷ f ∷ g ∷ h ∷ left))) (sym first) in
    let two = ap (λ (t : List ℕ). head ++ (to_be_bytes w32 pid ++ (t ++ left))) (sym second) in
    let small : pid < 2 ^ 32 = omega (arith, fit 0, fit 1, fit 2, fit 3) in
    let small' : secret < 2 ^ 32 = omega (arith, fit 4, fit 5, fit 6, fit 7) in
    let all : Spelled 16 CANCEL_REQUEST (a ∷ b ∷ c ∷ d ∷ e ∷ f ∷ g ∷ h ∷ left) (Cancels pid secret) left = (one ∙ two, (small, small')) in
    rw (← q.0, ← q.1) all
cancel-spelled short p rest fit is =
    let q = after-code 8 cancel_of short p rest (nat_lt (length short) 8) refl is in
    absurd (omega (arith, q.2))

tls-spelled : (text : List ℕ) (p : FirstOf) (rest : List ℕ) → AFirst AsksTls text ≡ AFirst p rest → Spelled 8 SSL_REQUEST text p rest
tls-spelled text p rest e =
    let is : AsksTls ≡ p = cc in
    let left : text ≡ rest = cc in
    let all : Spelled 8 SSL_REQUEST text AsksTls text = (refl, tt) in
    rw (← is, ← left) all

gss-spelled : (text : List ℕ) (p : FirstOf) (rest : List ℕ) → AFirst AsksGss text ≡ AFirst p rest → Spelled 8 GSSENC_REQUEST text p rest
gss-spelled text p rest e =
    let is : AsksGss ≡ p = cc in
    let left : text ≡ rest = cc in
    let all : Spelled 8 GSSENC_REQUEST text AsksGss text = (refl, tt) in
    rw (← is, ← left) all

code-spelled : (len code : ℕ) (text : List ℕ) (p : FirstOf) (rest : List ℕ) (s c t g l16 l8 : Bool) → 8 ≤ len → len ≤ MAX_FIRST_PACKET → AreBytes text
    → (code == PROTOCOL_3_0) ≡ s → (code == CANCEL_REQUEST) ≡ c → (code == SSL_REQUEST) ≡ t → (code == GSSENC_REQUEST) ≡ g → (len == 16) ≡ l16 → (len == 8) ≡ l8
    → (if s then after_code (len - 8) Start text else
    (if c then (if l16 then after_code 8 cancel_of text else FaultyFirst TooShort) else
    (if t then (if l8 then AFirst AsksTls text else FaultyFirst TooShort) else
    (if g then (if l8 then AFirst AsksGss text else FaultyFirst TooShort) else
    FaultyFirst UnknownCode)))) ≡ AFirst p rest
    → Spelled len code text p rest
code-spelled len code text p rest true c t g l16 l8 low high fit se ce te ge e16 e8 e = rw (eqb-true _ _ se) (start-spelled len text p rest low high e)
code-spelled len code text p rest false true t g true l8 low high fit se ce te ge e16 e8 e = rw (eqb-true _ _ ce, eqb-true _ _ e16) (cancel-spelled text p rest fit e)
code-spelled len code text p rest false true t g false l8 low high fit se ce te ge e16 e8 e = absurd cc
code-spelled len code text p rest false false true g l16 true low high fit se ce te ge e16 e8 e = rw (eqb-true _ _ te, eqb-true _ _ e8) (tls-spelled text p rest e)
code-spelled len code text p rest false false true g l16 false low high fit se ce te ge e16 e8 e = absurd cc
code-spelled len code text p rest false false false true l16 true low high fit se ce te ge e16 e8 e = rw (eqb-true _ _ ge, eqb-true _ _ e8) (gss-spelled text p rest e)
code-spelled len code text p rest false false false true l16 false low high fit se ce te ge e16 e8 e = absurd cc
code-spelled len code text p rest false false false false l16 l8 low high fit se ce te ge e16 e8 e = absurd cc

-- what of_length answers as a packet
at-length : (len : ℕ) (rest : List ℕ) (p : FirstOf) (more : List ℕ) (low high : Bool) → nat_lt len 8 ≡ low → nat_lt MAX_FIRST_PACKET len ≡ high
    → (if low then FaultyFirst TooShort else (if high then FaultyFirst TooLong else at_code len rest)) ≡ AFirst p more
    → (8 ≤ len) × (len ≤ MAX_FIRST_PACKET) × (at_code len rest ≡ AFirst p more)
at-length len rest p more true high l h e = absurd cc
at-length len rest p more false true l h e = absurd cc
at-length len rest p more false false l h e = (ltb-false _ _ l, ltb-false _ _ h, e)

-- a length and what follows it
length-spelled : (len : ℕ) (after : List ℕ) (p : FirstOf) (rest : List ℕ) → 8 ≤ len → len ≤ MAX_FIRST_PACKET → AreBytes after → at_code len after ≡ AFirst p rest → (to_be_bytes w32 len ++ after ≡ first_spelling p ++ rest) × IsFirst p
length-spelled len (e ∷ f ∷ g ∷ h ∷ text) p rest low high fit is =
    let code : ℕ = number e f g h in
    let s = code-spelled len code text p rest (code == PROTOCOL_3_0) (code == CANCEL_REQUEST) (code == SSL_REQUEST) (code == GSSENC_REQUEST) (len == 16) (len == 8) low high (λ i. fit (suc (suc (suc (suc i))))) refl refl refl refl refl refl is in
    let four : to_be_bytes w32 code ≡ e ∷ f ∷ g ∷ h ∷ [] = bytes-number code e f g h refl (fit 0) (fit 1) (fit 2) (fit 3) in
    (ap (λ (t : List ℕ). to_be_bytes w32 len ++ (t ++ text)) (sym four) ∙ s.0, s.1)
length-spelled len short p rest low high fit is = absurd cc

pub first-spelled : (bytes : List ℕ) (p : FirstOf) (rest : List ℕ) → AreBytes bytes → first_front bytes ≡ AFirst p rest → (bytes ≡ first_spelling p ++ rest) × IsFirst p
first-spelled (a ∷ b ∷ c ∷ d ∷ after) p rest fit e =
    let len : ℕ = number a b c d in
    let h = at-length len after p rest (nat_lt len 8) (nat_lt MAX_FIRST_PACKET len) refl refl e in
    let s = length-spelled len after p rest h.0 h.1 (λ i. fit (suc (suc (suc (suc i))))) h.2 in
    let four : to_be_bytes w32 len ≡ a ∷ b ∷ c ∷ d ∷ [] = bytes-number len a b c d refl (fit 0) (fit 1) (fit 2) (fit 3) in
    (ap (λ (t : List ℕ). t ++ after) (sym four) ∙ s.0, s.1)
first-spelled short p rest fit e = absurd cc

-- ---- its spelling and the rest are all the bytes

pub start-fits : (size : ℕ) (text : List ℕ) (p : FirstOf) (rest : List ℕ) → after_code size Start text ≡ AFirst p rest → 8 + length text ≡ length (first_spelling p) + length rest
start-fits size text p rest e =
    let g = after-code size Start text p rest (nat_lt (length text) size) refl e in
    rw (← g.0, ← g.1) (omega (arith, length-take size text, length-drop size text, g.2))

pub cancel-fits : (text : List ℕ) (p : FirstOf) (rest : List ℕ) → after_code 8 cancel_of text ≡ AFirst p rest → 8 + length text ≡ length (first_spelling p) + length rest
cancel-fits text p rest e =
    let g = after-code 8 cancel_of text p rest (nat_lt (length text) 8) refl e in
    rw (← g.0, ← g.1) (omega (arith, length-drop 8 text, g.2))

asks-fits : (q : FirstOf) (text : List ℕ) (p : FirstOf) (rest : List ℕ) → length (first_spelling q) ≡ 8 → AFirst q text ≡ AFirst p rest → 8 + length text ≡ length (first_spelling p) + length rest
asks-fits q text p rest h e =
    let is : q ≡ p = cc in
    let left : text ≡ rest = cc in
    rw (← is, ← left) (omega (arith, h))

code-fits : (len : ℕ) (text : List ℕ) (p : FirstOf) (rest : List ℕ) (s c t g l16 l8 : Bool)
    → (if s then after_code (len - 8) Start text else
    (if c then (if l16 then after_code 8 cancel_of text else FaultyFirst TooShort) else
    (if t then (if l8 then AFirst AsksTls text else FaultyFirst TooShort) else
    (if g then (if l8 then AFirst AsksGss text else FaultyFirst TooShort) else
    FaultyFirst UnknownCode)))) ≡ AFirst p rest
    → 8 + length text ≡ length (first_spelling p) + length rest
code-fits len text p rest true c t g l16 l8 e = start-fits (len - 8) text p rest e
code-fits len text p rest false true t g true l8 e = cancel-fits text p rest e
code-fits len text p rest false true t g false l8 e = absurd cc
code-fits len text p rest false false true g l16 true e = asks-fits AsksTls text p rest refl e
code-fits len text p rest false false true g l16 false e = absurd cc
code-fits len text p rest false false false true l16 true e = asks-fits AsksGss text p rest refl e
code-fits len text p rest false false false true l16 false e = absurd cc
code-fits len text p rest false false false false l16 l8 e = absurd cc

pub at_code-fits : (len : ℕ) (after : List ℕ) (p : FirstOf) (rest : List ℕ) → at_code len after ≡ AFirst p rest → 4 + length after ≡ length (first_spelling p) + length rest
at_code-fits len (e ∷ f ∷ g ∷ h ∷ text) p rest is =
    let code : ℕ = number e f g h in
    omega (arith, code-fits len text p rest (code == PROTOCOL_3_0) (code == CANCEL_REQUEST) (code == SSL_REQUEST) (code == GSSENC_REQUEST) (len == 16) (len == 8) is)
at_code-fits len short p rest is = absurd cc

pub first-fits : (bytes : List ℕ) (p : FirstOf) (rest : List ℕ) → first_front bytes ≡ AFirst p rest → length bytes ≡ length (first_spelling p) + length rest
first-fits (a ∷ b ∷ c ∷ d ∷ after) p rest e =
    let len : ℕ = number a b c d in
    let h = at-length len after p rest (nat_lt len 8) (nat_lt MAX_FIRST_PACKET len) refl refl e in
    omega (arith, at_code-fits len after p rest h.2)
first-fits short p rest e = absurd cc
