-- What is left of a client's bytes, once nothing more of them goes on: it adds nothing to a service.
use Rattle.std.proofs.Common.{◌≡◌, ◌⊎◌, inl, inr, ℕ, zero, suc, ◌+◌, Bool, true, false, List, [], ◌∷◌, ◌++◌, take, drop, length, refl, sym, ap, ◌∙◌, arith, append-nil, subst, Result, Ok, Err}
use Rattle.std.specs.Prelude.{if◌then◌else◌}
use Rattle.std.specs.List.{flat_map, AllByRecursion}
use Rattle.std.specs.Int.{w32, to_be_bytes}
use Rattle.std.proofs.lemmas.Bool.{false≢true, eqb-true}
use Rattle.frame_view.specs.declared.Side.TheVariants.{Client}
use Rattle.frame_view.specs.declared.client.TheConstants.{TERMINATE}
use Rattle.frame_view.specs.declared.frames.TheConstants.{MAX_FRAME}
use Rattle.frame_view.specs.Frames.{AreBytes, Cut, FrameOf, Front, AFrame, Lacks, Faulty, IsFrame, Stops, cut_after, front, spelling}
use Rattle.frame_view.proofs.Cuts.{front-spelled}
use Rattle.frame_view.proofs.Splitting.{frames-spellings, frames-stopped}
use Rattle.frame_view.proofs.Taking.{frames-front}
use Rattle.session_values.specs.declared.cause.Cause.{Cause}
use Rattle.session_values.specs.State.{State, CatalogueOf, StartKeyOf, Answer, and_then, fresh}
use Rattle.session_values.specs.Step.{answer_skipping, answer_to, asked, first_mark, later_marks, marks_after, run_frames, silent, step, step_open}
use Rattle.session_values.specs.Service.{client_frames, served, service, welcome}
use Rattle.session_run_laws.proofs.ByName.{runs_go_on}
use Rattle.relay_flow.specs.Parts.{Begins, Spells, is_stuck}
use Rattle.relay_flow.specs.Flows.{AtTerminate}

-- no session answers to these bytes
abbrev pub AddsNothing : List ℕ → Type 0
AddsNothing bytes = (cat : CatalogueOf) (s : State) (marks : List Bool) → (run_frames cat s marks (client_frames bytes)).replies ≡ []

-- ---- bytes at whose front no frame stands

none_run : (cat : CatalogueOf) (s : State) (marks : List Bool) → (run_frames cat s marks []).replies ≡ []
unfolding run_frames
none_run cat s marks = refl

pub stopped_adds : (bytes : List ℕ) → Stops (front Client MAX_FRAME bytes) → AddsNothing bytes
stopped_adds bytes h cat s marks = ap (λ (c : Cut). (run_frames cat s marks c.frames).replies) (frames-stopped Client MAX_FRAME bytes h) ∙ none_run cat s marks

unstuck : (f : Front) (k a b c d : ℕ) (rest : List ℕ) → is_stuck Client f (k ∷ a ∷ b ∷ c ∷ d ∷ rest) ≡ true → ⊥
unstuck (Lacks n) k a b c d rest e = false≢true e
unstuck (AFrame kind body more) k a b c d rest e = false≢true e
unstuck (Faulty fault) k a b c d rest e = false≢true e

-- less than a head
pub short_stops : (limit : ℕ) (part : List ℕ) → is_stuck Client (front Client limit part) part ≡ true → Stops (front Client MAX_FRAME part)
short_stops limit [] e = tt
short_stops limit (k ∷ []) e = tt
short_stops limit (k ∷ a ∷ []) e = tt
short_stops limit (k ∷ a ∷ b ∷ []) e = tt
short_stops limit (k ∷ a ∷ b ∷ c ∷ []) e = tt
short_stops limit (k ∷ a ∷ b ∷ c ∷ d ∷ rest) e = absurd (unstuck (front Client limit (k ∷ a ∷ b ∷ c ∷ d ∷ rest)) k a b c d rest e)

-- ---- bytes that begin with a Terminate, or with a part of one

-- an answer that ends the session without a reply
abbrev Ends : Answer → Type 0
Ends a = (a.replies ≡ []) × (a.next.ended ≡ true)

after_end : (cat : CatalogueOf) (s : State) (marks : List Bool) (fs : List FrameOf) → s.ended ≡ true → (run_frames cat s marks fs).replies ≡ []
unfolding run_frames step
after_end cat s marks [] e = refl
after_end cat s marks (f ∷ fs) e =
    let none : step cat s (first_mark marks) f ≡ silent s = ap (λ (b : Bool). if b then silent s else step_open cat s (first_mark marks) f) e in
    ap (λ (a : Answer). (and_then a (λ t. run_frames cat t (later_marks marks) fs)).replies) none ∙ after_end cat s (later_marks marks) fs e

ends_by : (cat : CatalogueOf) (s : State) (m : Bool) (f : FrameOf) (e k : Bool) → s.ended ≡ e → s.skipping ≡ k → f.kind ≡ TERMINATE → Ends (step cat s m f)
unfolding step
ends_by cat s m f true k e h t = subst (λ (b : Bool). Ends (if b then silent s else step_open cat s m f)) (sym e) (refl, e)
ends_by cat s m f false true e h t =
    subst (λ (b : Bool). Ends (if b then silent s else step_open cat s m f)) (sym e)
    (subst (λ (b : Bool). Ends (if b then answer_skipping s (asked f.kind) else answer_to cat s m (asked f.kind) f.body)) (sym h)
    (subst (λ (n : ℕ). Ends (answer_skipping s (asked n))) (sym t) (refl, refl)))
ends_by cat s m f false false e h t =
    subst (λ (b : Bool). Ends (if b then silent s else step_open cat s m f)) (sym e)
    (subst (λ (b : Bool). Ends (if b then answer_skipping s (asked f.kind) else answer_to cat s m (asked f.kind) f.body)) (sym h)
    (subst (λ (n : ℕ). Ends (answer_to cat s m (asked n) f.body)) (sym t) (refl, refl)))

ends_run : (cat : CatalogueOf) (s : State) (marks : List Bool) (f : FrameOf) (fs : List FrameOf) → f.kind ≡ TERMINATE → (run_frames cat s marks (f ∷ fs)).replies ≡ []
unfolding run_frames
ends_run cat s marks f fs t =
    let a : Answer = step cat s (first_mark marks) f in
    let e : Ends a = ends_by cat s (first_mark marks) f s.ended s.skipping refl refl t in
    ap (λ (rs : List FrameOf). rs ++ (run_frames cat a.next (later_marks marks) fs).replies) e.0 ∙ after_end cat a.next (later_marks marks) fs e.1

terminate_by : (bytes more : List ℕ) (f : Front) → AreBytes bytes → bytes ≡ TERMINATE ∷ more → front Client MAX_FRAME bytes ≡ f → AddsNothing bytes
terminate_by bytes more (AFrame kind body rest) fit e h cat s marks =
    let is : bytes ≡ kind ∷ (to_be_bytes w32 (4 + length body) ++ body) ++ rest = (front-spelled Client MAX_FRAME bytes kind body rest fit h).0 in
    let same : kind ≡ TERMINATE = cc in
    ap (λ (c : Cut). (run_frames cat s marks c.frames).replies) (frames-front Client MAX_FRAME bytes kind body rest h)
    ∙ ends_run cat s marks (record { kind = kind; body = body }) (client_frames (drop (5 + length body) bytes)) same
terminate_by bytes more (Lacks n) fit e h cat s marks = stopped_adds bytes (subst Stops (sym h) tt) cat s marks
terminate_by bytes more (Faulty fault) fit e h cat s marks = stopped_adds bytes (subst Stops (sym h) tt) cat s marks

pub terminate_adds : (bytes more : List ℕ) → AreBytes bytes → bytes ≡ TERMINATE ∷ more → AddsNothing bytes
terminate_adds bytes more fit e = terminate_by bytes more (front Client MAX_FRAME bytes) fit e refl

-- what a list begins with whose beginning begins so
record Starts (bytes : List ℕ) (b : ℕ) : Type 0 where
  pub rest : List ℕ
  pub is : bytes ≡ b ∷ rest

starts_by : (n : ℕ) (bytes : List ℕ) (b : ℕ) (more : List ℕ) → take n bytes ≡ b ∷ more → Starts bytes b
starts_by zero bytes b more e = absurd cc
starts_by (suc n) [] b more e = absurd cc
starts_by (suc n) (x ∷ bytes) b more e =
    let same : x ≡ b = cc in
    record { rest = bytes; is = ap (λ (y : ℕ). y ∷ bytes) same }

starts_with : (limit : ℕ) (part : List ℕ) → AtTerminate Client limit part → Starts part TERMINATE
starts_with limit part x = by x.begins
  where
    is : x.kind ≡ TERMINATE
    is = eqb-true x.kind TERMINATE x.is_terminate

    by : (Begins Client limit (take x.count part) x.kind x.missing) ⊎ (Spells Client limit (take x.count part) x.kind x.status x.foreign) → Starts part TERMINATE
    by (inl b) = subst (Starts part) is (starts_by x.count part x.kind _ b.bytes)
    by (inr s) = subst (Starts part) (s.kind_is ∙ is) (starts_by x.count part s.frame.kind _ s.spelled)

pub at_terminate_adds : (limit : ℕ) (part more : List ℕ) → AreBytes (part ++ more) → AtTerminate Client limit part → AddsNothing (part ++ more)
at_terminate_adds limit part more fit x =
    let s : Starts part TERMINATE = starts_with limit part x in
    terminate_adds (part ++ more) (s.rest ++ more) fit (ap (λ (p : List ℕ). p ++ more) s.is)

-- ---- so a service stays as it was

served_same : (cat : CatalogueOf) (r : Result State Cause) (pid secret : ℕ) (marks : List Bool) (fs gs : List FrameOf) → ((s : State) (ms : List Bool) → (run_frames cat s ms gs).replies ≡ [])
    → flat_map spelling (served cat r pid secret marks (fs ++ gs)) ≡ flat_map spelling (served cat r pid secret marks fs)
served_same cat (Err c) pid secret marks fs gs h = refl
served_same cat (Ok s) pid secret marks fs gs h =
    let t : State = (run_frames cat s marks fs).next in
    let none : (run_frames cat s marks (fs ++ gs)).replies ≡ (run_frames cat s marks fs).replies =
    ap (λ (a : Answer). a.replies) (runs_go_on cat s marks fs gs) ∙ (ap (λ (rs : List FrameOf). (run_frames cat s marks fs).replies ++ rs) (h t (marks_after fs marks)) ∙ append-nil (run_frames cat s marks fs).replies) in
    ap (λ (rs : List FrameOf). flat_map spelling (welcome s pid secret ++ rs)) none

frames_with : (fs : List FrameOf) (bytes : List ℕ) → AllByRecursion (IsFrame Client MAX_FRAME) fs → client_frames (flat_map spelling fs ++ bytes) ≡ fs ++ client_frames bytes
frames_with fs bytes each = ap (λ (c : Cut). c.frames) (frames-spellings Client MAX_FRAME fs bytes (omega arith) each)

frames_of : (fs : List FrameOf) → AllByRecursion (IsFrame Client MAX_FRAME) fs → client_frames (flat_map spelling fs) ≡ fs
unfolding cut_after
frames_of fs each = ap client_frames (sym (append-nil (flat_map spelling fs))) ∙ (frames_with fs [] each ∙ append-nil fs)

pub service_same : (cat : CatalogueOf) (key : StartKeyOf) (pid secret : ℕ) (marks : List Bool) (fs : List FrameOf) (bytes : List ℕ) → AllByRecursion (IsFrame Client MAX_FRAME) fs → AddsNothing bytes
    → service cat key pid secret marks (flat_map spelling fs ++ bytes) ≡ service cat key pid secret marks (flat_map spelling fs)
unfolding service
service_same cat key pid secret marks fs bytes each h =
    ap (λ (gs : List FrameOf). flat_map spelling (served cat (fresh cat key) pid secret marks gs)) (frames_with fs bytes each)
    ∙ (served_same cat (fresh cat key) pid secret marks fs (client_frames bytes) (h cat)
    ∙ ap (λ (gs : List FrameOf). flat_map spelling (served cat (fresh cat key) pid secret marks gs)) (sym (frames_of fs each)))
