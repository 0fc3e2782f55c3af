-- Bodies whose first byte decides, spelled and read again.
use Rattle.std.proofs.Common.{◌≡◌, ℕ, List, [], ◌∷◌, ◌++◌, Ok, Err, Result, refl, ap, sym, ◌∙◌, subst, Bool, true, false}
use Rattle.std.specs.Prelude.{◌==◌, if◌then◌else◌}
use Rattle.std.proofs.lemmas.Bool.{eqb-true}
use Rattle.frame_view.specs.Frames.{AreBytes}
use Rattle.message_view.specs.declared.ViewError.{ViewError}
use Rattle.message_view.specs.declared.ViewError.TheVariants.{TooShort}
use Rattle.message_view.specs.declared.Status.{Status}
use Rattle.message_view.specs.declared.Status.TheVariants.{Idle, InTransaction, Failed}
use Rattle.message_view.specs.declared.kinds.TheConstants.{IDLE, IN_TRANSACTION, FAILED, STATEMENT, PORTAL}
use Rattle.message_view.specs.Bodies.{Text, HasNoZero, text, Target, OfStatement, OfPortal, target_body}
use Rattle.message_laws.specs.Laws.{IsReaderOf}
use Rattle.message_view.specs.Parts.{status_byte}
use Rattle.message_view.specs.Reading.{◌>>=◌, text_at, alone, at_end, target_of, ready_of, status_named}
use Rattle.message_view.specs.Spelled.{FitsTarget}
use Rattle.message_view.proofs.Pieces.{bind-inv, at_end-inv}
use Rattle.message_laws.proofs.Trips.{text_reads, text_spelled, bytes_after}
use Rattle.message_laws.proofs.Alone.{alone-again, alone-only}

text-only : (bytes t rest : List ℕ) → AreBytes bytes → text_at bytes ≡ Ok (t, rest) → (bytes ≡ text t ++ rest) × HasNoZero t
text-only bytes t rest fits e = text_spelled bytes t rest e

pub text_again : (t : Text) → HasNoZero t → alone (text_at (text t)) ≡ Ok t
text_again t h = alone-again text_at text HasNoZero text_reads text-only t h

pub text_alone : (body t : List ℕ) → AreBytes body → alone (text_at body) ≡ Ok t → HasNoZero t × (body ≡ text t)
text_alone body t fits e = alone-only text_at text HasNoZero text_reads text-only body t fits e

-- ---- Describe and Close

target-again : (t : Target) → FitsTarget t → target_of (target_body t) ≡ Ok t
unfolding target_of
target-again (OfStatement name) h = rw (text_again name h) refl
target-again (OfPortal name) h = rw (text_again name h) refl

abbrev target-or : Result Target ViewError → Target → Target
target-or (Ok t) d = t
target-or (Err f) d = d

abbrev statement : Text → Result Target ViewError
statement t = Ok (OfStatement t)

abbrev portal : Text → Result Target ViewError
portal t = Ok (OfPortal t)

named : (b k : ℕ) (body : List ℕ) (make : Text → Target) (t : Target) → ((n : Text) → HasNoZero n → FitsTarget (make n)) → ((n : Text) → target_body (make n) ≡ k ∷ text n)
    → b ≡ k → AreBytes body → (alone (text_at body) >>= λ n. Ok (make n)) ≡ Ok t → FitsTarget t × (b ∷ body ≡ target_body t)
named b k body make t fit spell is fits e =
    let n = bind-inv (alone (text_at body)) (λ (m : Text). Ok (make m)) t e in
    let p = text_alone body n.0 fits n.1 in
    let same : make n.0 ≡ t = ap (λ (r : Result Target ViewError). target-or r (make n.0)) n.2 in
    subst (λ (u : Target). FitsTarget u × (b ∷ body ≡ target_body u)) same
    (fit n.0 p.0, ap (λ (j : ℕ). j ∷ body) is ∙ ap (λ (z : List ℕ). k ∷ z) p.1 ∙ sym (spell n.0))

by-byte : (b : ℕ) (body : List ℕ) (t : Target) (s p : Bool) → (b == STATEMENT) ≡ s → (b == PORTAL) ≡ p → AreBytes body
    → (if s then (alone (text_at body) >>= statement) else (if p then (alone (text_at body) >>= portal) else Err TooShort)) ≡ Ok t → FitsTarget t × (b ∷ body ≡ target_body t)
by-byte b body t true p s-is p-is fits e = named b STATEMENT body OfStatement t (λ n h. h) (λ n. refl) (eqb-true b STATEMENT s-is) fits e
by-byte b body t false true s-is p-is fits e = named b PORTAL body OfPortal t (λ n h. h) (λ n. refl) (eqb-true b PORTAL p-is) fits e
by-byte b body t false false s-is p-is fits e = absurd (cc)

target-only : (body : List ℕ) (t : Target) → AreBytes body → target_of body ≡ Ok t → FitsTarget t × (body ≡ target_body t)
unfolding target_of
target-only [] t fits e = absurd (cc)
target-only (b ∷ body) t fits e = by-byte b body t (b == STATEMENT) (b == PORTAL) refl refl (bytes_after (b ∷ []) body fits) e

pub target_reader : IsReaderOf target_of target_body FitsTarget
target_reader = record { again = target-again; only = target-only }

-- ---- ReadyForQuery

ready-again : (s : Status) → Unit {0} → ready_of (status_byte s ∷ []) ≡ Ok s
unfolding ready_of
ready-again Idle u = refl
ready-again InTransaction u = refl
ready-again Failed u = refl

abbrev status-or : Result Status ViewError → Status → Status
status-or (Ok s) d = s
status-or (Err f) d = d

byte-of : (b : ℕ) (s : Status) (i t e : Bool) → (b == IDLE) ≡ i → (b == IN_TRANSACTION) ≡ t → (b == FAILED) ≡ e
    → (if i then Ok Idle else (if t then Ok InTransaction else (if e then Ok Failed else Err TooShort))) ≡ Ok s → b ≡ status_byte s
byte-of b s true t e i-is t-is e-is is = eqb-true b IDLE i-is ∙ ap (λ (r : Result Status ViewError). status_byte (status-or r Idle)) is
byte-of b s false true e i-is t-is e-is is = eqb-true b IN_TRANSACTION t-is ∙ ap (λ (r : Result Status ViewError). status_byte (status-or r InTransaction)) is
byte-of b s false false true i-is t-is e-is is = eqb-true b FAILED e-is ∙ ap (λ (r : Result Status ViewError). status_byte (status-or r Failed)) is
byte-of b s false false false i-is t-is e-is is = absurd (cc)

ready-only : (body : List ℕ) (s : Status) → AreBytes body → ready_of body ≡ Ok s → Unit {0} × (body ≡ status_byte s ∷ [])
unfolding ready_of
ready-only [] s fits e = absurd (cc)
ready-only (b ∷ body) s fits e =
    let n = bind-inv (status_named b) (λ (x : Status). at_end x body) s e in
    let last = at_end-inv n.0 s body n.2 in
    let is : b ≡ status_byte n.0 = byte-of b n.0 (b == IDLE) (b == IN_TRANSACTION) (b == FAILED) refl refl refl n.1 in
    (tt, ap (λ (z : List ℕ). b ∷ z) last.1 ∙ ap (λ (k : ℕ). k ∷ []) (is ∙ ap status_byte last.0))

pub ready_reader : IsReaderOf ready_of (λ s. status_byte s ∷ []) (λ _. Unit {0})
ready_reader = record { again = ready-again; only = ready-only }
