-- One packet of a client is taken, and then all of them.
use Rattle.std.proofs.Common.{◌≡◌, ℕ, zero, suc, ◌+◌, Bool, true, false, List, [], ◌∷◌, ◌++◌, length, drop, Option, Some, None, Result, Ok, Err, refl, sym, ap, ap₂, ◌∙◌, append_assoc, append-nil, arith, subst}
use Rattle.std.proofs.lemmas.Bool.{true≢false}
use Rattle.std.specs.Borrow.{Bor}
use Rattle.std.specs.List.{flat_map, AllByRecursion}
use Rattle.std.proofs.Math.Seq.{drop-append_seam}
use Rattle.frame_view.specs.declared.Frame.{Frame}
use Rattle.frame_view.specs.declared.Step.{Step}
use Rattle.frame_view.specs.declared.Step.TheVariants.{Whole}
use Rattle.frame_view.specs.declared.FirstStep.TheVariants.{Startup}
use Rattle.frame_view.specs.declared.Side.TheVariants.{Client}
use Rattle.frame_view.specs.declared.frames.TheConstants.{MAX_FRAME}
use Rattle.frame_view.specs.Answers.{Tells, TellsFirst}
use Rattle.frame_view.specs.Frames.{AreBytes, FrameOf, Front, AFrame, Lacks, Faulty, Stops, Start, Cut, first_front, first_spelling, front, spelling}
use Rattle.frame_view.proofs.FirstPackets.{first-spelled}
use Rattle.frame_view.proofs.FirstTaken.{started}
use Rattle.frame_view.proofs.Cuts.{front-spelled}
use Rattle.frame_view.proofs.Taking.{not_whole}
use Rattle.frame_view.proofs.Splitting.{frames-stopped}
use Rattle.session_values.specs.declared.cause.Cause.{Cause}
use Rattle.session_values.specs.Answers.{Gave, frame_of}
use Rattle.session_values.specs.Errors.{fatal}
use Rattle.session_values.specs.State.{State, CatalogueOf}
use Rattle.session_values.specs.Step.{step, run_frames}
use Rattle.link_model.specs.Laws.{IsSent}
use Rattle.message_laws.proofs.Trips.{bytes_after}
use Rattle.link_model.specs.Futures.{replies_in}
use Rattle.link_model.specs.Stages.{Server, Auth, Stage, Before, Asked, Open, Closed, Starts, Sends, can_strike, packet_bytes, packet_marks, begins, hears, let_in, no_auth, opened, serve}
use Rattle.link_model.proofs.Both.{served_both}
use Rattle.memory_ends.specs.declared.dialogue.Host.{Host}
use Rattle.session_machine.specs.Sessions.{SessionOf, unstruck_if}
use Rattle.memory_ends.specs.declared.dialogue.Dialogue.{Dialogue}
use Rattle.memory_ends.specs.declared.dialogue.Progress.{Progress}
use Rattle.memory_ends.specs.declared.dialogue.Progress.TheVariants as progress
use Rattle.memory_ends.specs.Dialogues.{server_of, stage_of, Takes, TakesPacket, Waits, HasTaken, MovedOn, alone, Serves}

-- ---- the turns

-- AuthenticationOk and the error of a start
pub turn_refused : (v : Server) (r : Result State Cause) (c : Cause) (before mid after : List ℕ) → r ≡ Err c → mid ≡ before ++ spelling let_in → after ≡ mid ++ spelling (fatal c)
    → (Closed ≡ (opened v r).next) × (after ≡ before ++ flat_map spelling (opened v r).replies)
turn_refused v r c before mid after e m a = rw e (refl, a ∙ ap (λ (x : List ℕ). x ++ spelling (fatal c)) m ∙ append_assoc before (spelling let_in) (spelling (fatal c)) ∙ ap (λ (x : List ℕ). before ++ (spelling let_in ++ x)) (sym (append-nil (spelling (fatal c)))))

-- a session that isn't opened has no state
abbrev state_if : Result SessionOf Cause → Result State Cause
state_if (Ok s) = Ok s.state
state_if (Err c) = Err c

state_back : (r : Result State Cause) → r ≡ state_if (unstruck_if r)
state_back (Ok s) = refl
state_back (Err c) = refl

pub refused_so : (r : Result State Cause) (c : Cause) → unstruck_if r ≡ Err c → r ≡ Err c
refused_so r c e = state_back r ∙ ap state_if e

-- ---- the StartupMessage

pub takes_start : (v : Server) (auth : Auth) (part : Bor (List ℕ)) (bytes items rest out replied : List ℕ) (next : Stage) → AreBytes bytes → bytes ≡ items → TellsFirst (Startup part) (first_front bytes)
    → (next ≡ (begins v auth part.now).next) × (replied ≡ out ++ flat_map spelling (begins v auth part.now).replies) → rest ≡ drop (8 + length part.now) items → (marks : List Bool) → Takes v (Before auth) next items rest out replied marks marks
takes_start v auth part bytes items rest out replied next fit same t turn left marks =
    let s = started part bytes fit t in
    let p = first-spelled bytes (Start part.now) (drop (8 + length part.now) bytes) fit s.first in
    record {
      packet = Starts part.now;
      lawful = p.1;
      front = sym same ∙ p.0 ∙ ap (λ (x : List ℕ). first_spelling (Start part.now) ++ x) (ap (drop (8 + length part.now)) same ∙ sym left);
      stage = turn.0;
      replies = turn.1;
      marks = sym (append-nil marks);
    }

-- ---- frames

bytes_before : (front rest : List ℕ) → AreBytes (front ++ rest) → AreBytes front
bytes_before [] rest h i = omega arith
bytes_before (b ∷ front) rest h zero = h 0
bytes_before (b ∷ front) rest h (suc i) = bytes_before front rest (λ j. h (suc j)) i

-- what was cut out is a frame that a client may send, and what follows it is left
record Cuts (frame : Frame) (bytes : List ℕ) : Type 0 where
  sent : IsSent (frame_of frame)
  whole : bytes ≡ spelling (frame_of frame) ++ drop (length frame.whole.now) bytes

abbrev a_frame : ℕ → List ℕ → FrameOf
a_frame k b = record { kind = k; body = b }

cut_out-at : (frame : Frame) (bytes : List ℕ) (f : Front) → AreBytes bytes → front Client MAX_FRAME bytes ≡ f → Tells (Whole frame) bytes f → Cuts frame bytes
cut_out-at frame bytes (AFrame k body rest) fit e t =
    let s = front-spelled Client MAX_FRAME bytes k body rest fit e in
    let same : a_frame k body ≡ frame_of frame = ap₂ a_frame (sym t.kind_is) (sym t.body_is) in
    let back : drop (length frame.whole.now) bytes ≡ rest = ap (drop (length frame.whole.now)) (sym t.whole_is) ∙ drop-append_seam frame.whole.now rest in
    let head : List ℕ = k ∷ Rattle.std.specs.Int.to_be_bytes Rattle.std.specs.Int.w32 (4 + length body) in
    let b : AreBytes body = bytes_after head body (bytes_before (head ++ body) rest (subst AreBytes s.0 fit)) in
    record {
      sent = subst IsSent same (record { whole = s.1; bytes = b });
      whole = s.0 ∙ ap (λ (x : FrameOf). spelling x ++ rest) same ∙ ap (λ (x : List ℕ). spelling (frame_of frame) ++ x) (sym back);
    }
cut_out-at frame bytes (Lacks n) fit e t = absurd t
cut_out-at frame bytes (Faulty x) fit e t = absurd t

cut_out : (frame : Frame) (bytes items : List ℕ) → AreBytes bytes → bytes ≡ items → Tells (Whole frame) bytes (front Client MAX_FRAME bytes) → Cuts frame items
cut_out frame bytes items fit same t = subst (Cuts frame) same (cut_out-at frame bytes (front Client MAX_FRAME bytes) fit refl t)

pub takes_answer : (v : Server) (start answer : List ℕ) (frame : Frame) (bytes items rest out replied : List ℕ) (before after : List Bool) (next : Stage) → AreBytes bytes → bytes ≡ items → Tells (Whole frame) bytes (front Client MAX_FRAME bytes)
    → (next ≡ (hears v start answer no_auth (frame_of frame)).next) × (replied ≡ out ++ flat_map spelling (hears v start answer no_auth (frame_of frame)).replies) → after ≡ before ++ false ∷ [] → rest ≡ drop (length frame.whole.now) items → Takes v (Asked start answer no_auth) next items rest out replied before after
takes_answer v start answer frame bytes items rest out replied before after next fit same t turn marked left =
    let k = cut_out frame bytes items fit same t in
    record {
      packet = Sends false (frame_of frame);
      lawful = (k.sent, refl);
      front = k.whole ∙ ap (λ (x : List ℕ). spelling (frame_of frame) ++ x) (sym left);
      stage = turn.0;
      replies = turn.1;
      marks = marked;
    }

-- a frame of the session
no_frame : (v : Server) (s : State) (bytes : List ℕ) → Stops (front Client MAX_FRAME bytes) → replies_in v (Open s) [] bytes ≡ []
unfolding run_frames
no_frame v s bytes h = ap (λ (c : Cut). flat_map spelling (run_frames v.catalogue s [] c.frames).replies) (frames-stopped Client MAX_FRAME bytes h)

pub waits_frame : (v : Server) (s : State) (x : Step) (bytes items out : List ℕ) (marks : List Bool) → bytes ≡ items → ((frame : Frame) → x ≡ Whole frame → ⊥) → Tells x bytes (front Client MAX_FRAME bytes) → Waits v (Open s) items items out out marks marks
waits_frame v s x bytes items out marks same n t = record {
  left = refl;
  silent = refl;
  marks = refl;
  answered = ap (replies_in v (Open s) []) (sym same) ∙ no_frame v s bytes (not_whole x bytes (front Client MAX_FRAME bytes) n t);
}

pub takes_frame : (v : Server) (cat : CatalogueOf) (s next : State) (m : Bool) (frame : Frame) (bytes items rest out replied : List ℕ) (before after : List Bool) → cat ≡ v.catalogue
    → AreBytes bytes → bytes ≡ items → Tells (Whole frame) bytes (front Client MAX_FRAME bytes) → (m ≡ true → can_strike v s (frame_of frame) ≡ true) → after ≡ before ++ m ∷ []
    → Gave next out replied (step cat s m (frame_of frame)) → rest ≡ drop (length frame.whole.now) items → Takes v (Open s) (Open next) items rest out replied before after
takes_frame v cat s next m frame bytes items rest out replied before after d fit same t may marked gave left =
    let k = cut_out frame bytes items fit same t in
    let g : Gave next out replied (step v.catalogue s m (frame_of frame)) = subst (λ (x : CatalogueOf). Gave next out replied (step x s m (frame_of frame))) d gave in
    record {
      packet = Sends m (frame_of frame);
      lawful = (k.sent, may);
      front = k.whole ∙ ap (λ (x : List ℕ). spelling (frame_of frame) ++ x) (sym left);
      stage = ap Open g.next;
      replies = g.written;
      marks = marked;
    }

-- what was taken, and where the client is then
moved_so : (h : Host) (old new : Progress) (next : Option Progress) (went : Bool) (inbox rest outbox replied : List ℕ) (ms ns : List Bool) → TakesPacket h (stage_of h old) next inbox rest outbox replied ms ns → MovedOn went old new next
    → HasTaken went (server_of h) (stage_of h old) (stage_of h new) inbox rest outbox replied ms ns
moved_so h old new (Some p) went inbox rest outbox replied ms ns t m = rw (m.0, m.1) t
moved_so h old new None went inbox rest outbox replied ms ns t m = rw (m.0, m.1) (refl, t)

pub starts_so : (h : Host) (old new : Progress) (next : Option Progress) (went : Bool) (inbox rest outbox replied : List ℕ) (ms : List Bool) → old ≡ progress.Before → ((marks : List Bool) → TakesPacket h (stage_of h progress.Before) next inbox rest outbox replied marks marks) → MovedOn went old new next
    → HasTaken went (server_of h) (stage_of h old) (stage_of h new) inbox rest outbox replied ms ms
starts_so h old new next went inbox rest outbox replied ms e t m = moved_so h old new next went inbox rest outbox replied ms ms (subst (λ (p : Progress). TakesPacket h (stage_of h p) next inbox rest outbox replied ms ms) (sym e) (t ms)) m

-- ---- all packets

takes_served : (a b : Dialogue) (ms ns : List Bool) → b.host ≡ a.host → Takes (server_of a.host) (stage_of a.host a.progress) (stage_of a.host b.progress) a.inbox.items b.inbox.items a.outbox.items b.outbox.items ms ns
    → (t : List Bool) × (ns ≡ ms ++ t) × Serves a t b
takes_served a b ms ns e t = (
  packet_marks t.packet,
  t.marks,
  record {
    taken = t.packet ∷ [];
    lawful = (t.lawful, tt);
    marks_are = append-nil (packet_marks t.packet);
    inbox = append-nil a.inbox.items ∙ t.front ∙ ap (λ (x : List ℕ). x ++ b.inbox.items) (sym (append-nil (packet_bytes t.packet)));
    stage = ap (λ (x : Host). stage_of x b.progress) e ∙ t.stage;
    outbox = ap (λ (rs : List FrameOf). a.outbox.items ++ flat_map spelling rs) (append-nil (serve (server_of a.host) (stage_of a.host a.progress) t.packet).replies) ∙ sym t.replies;
  },
)

pub serves_one : (went : Bool) (a b c : Dialogue) (ms ns : List Bool) → went ≡ true → b.host ≡ a.host → c.host ≡ b.host → Serves a ms b → HasTaken went (server_of b.host) (stage_of b.host b.progress) (stage_of b.host c.progress) b.inbox.items c.inbox.items b.outbox.items c.outbox.items ms ns → Serves a ns c
serves_one true a b c ms ns w e f x t =
    let y = takes_served b c ms ns f t in
    subst (λ (ts : List Bool). Serves a ts c) (sym y.1) (served_both (alone a) (alone b) (alone c) [] [] [] [] ms y.0 (ap server_of e) x y.2)
serves_one false a b c ms ns w e f x t = absurd (true≢false (sym w))
