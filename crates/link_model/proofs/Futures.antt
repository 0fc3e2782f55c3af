-- A server's future, and the packets that it takes.
use Rattle.std.proofs.Common.{◌≡◌, ℕ, zero, suc, Bool, true, false, List, [], ◌∷◌, ◌++◌, length, refl, sym, ap, ap₂, ◌∙◌, arith, append_assoc, Result, Ok, Err}
use Rattle.std.specs.List.{flat_map}
use Rattle.std.proofs.lemmas.Grind.{flat_map-append}
use Rattle.frame_view.specs.declared.Side.TheVariants.{Client}
use Rattle.frame_view.specs.declared.frames.TheConstants.{MAX_FRAME}
use Rattle.frame_view.specs.Frames.{FrameOf, Front, FirstFront, Start, Cut, spelling}
use Rattle.frame_view.specs.Laws.{SpelledIsFront, SpelledIsFirst, FirstSpelledIsRead}
use Rattle.session_run_laws.specs.declared.cause.Cause.{Cause}
use Rattle.session_run_laws.specs.State.{State}
use Rattle.session_run_laws.specs.Step.{step, run_frames}
use Rattle.session_run_laws.specs.Service.{client_frames}
use Rattle.link_model.specs.Stages.{Server, Auth, Question, Round, Stage, Before, Asked, Open, Closed, Packet, Starts, Sends, packet_bytes, packets_bytes, packet_marks, packets_marks, Turn, begins, goes_on, hears, opened, started_by, is_answer, serve, MayTake, MayTakeAll, after, answers}
use Rattle.link_model.specs.Standing.{Standing, Served, Passed, marks_since}
use Rattle.link_model.specs.Futures.{at_front, replies_open, replies_by, replies_started, replies_before, replies_in, future_with, FuturesStay, DeathsCut}

-- ---- the stages after a turn

open_by : (v : Server) (n : ℕ) (s : State) (marks : List Bool) (rest : List ℕ) → replies_by v n (Open s) marks rest ≡ replies_open v (Open s) marks rest
open_by v zero s marks rest = refl
open_by v (suc n) s marks rest = refl

closed_by : (v : Server) (n : ℕ) (marks : List Bool) (rest : List ℕ) → replies_by v n Closed marks rest ≡ []
closed_by v zero marks rest = refl
closed_by v (suc n) marks rest = refl

-- a session that was opened, or refused, is asked for no answer
opened_by : (v : Server) (n : ℕ) (r : Result State Cause) (marks : List Bool) (rest : List ℕ) → replies_by v n (opened v r).next marks rest ≡ replies_in v (opened v r).next marks rest
opened_by v n (Ok s) marks rest = open_by v n s marks rest
opened_by v n (Err c) marks rest = closed_by v n marks rest

-- behind a right answer as many answers are wanted as there are questions
asked_by : (v : Server) (told : List Question) (start : List ℕ) (rounds : List Round) (marks : List Bool) (rest : List ℕ) → replies_by v (length rounds) (goes_on v told start rounds).next marks rest ≡ replies_in v (goes_on v told start rounds).next marks rest
asked_by v told start [] marks rest = opened_by v 0 (started_by v.catalogue start) marks rest
asked_by v told start (r ∷ rs) marks rest = refl

started-begun : (v : Server) (auth : Auth) (start : List ℕ) (marks : List Bool) (rest : List ℕ) → replies_started v (begins v auth start).next marks rest ≡ replies_in v (begins v auth start).next marks rest
started-begun v auth start marks rest = by auth.rounds
  where
    opened_so : (r : Result State Cause) → replies_started v (opened v r).next marks rest ≡ replies_in v (opened v r).next marks rest
    opened_so (Ok s) = refl
    opened_so (Err c) = refl

    by : (rounds : List Round) → replies_started v (goes_on v auth.told start rounds).next marks rest ≡ replies_in v (goes_on v auth.told start rounds).next marks rest
    by [] = opened_so (started_by v.catalogue start)
    by (r ∷ rs) = refl

heard_by : (v : Server) (start answer : List ℕ) (auth : Auth) (f : FrameOf) (marks : List Bool) (rest : List ℕ) → replies_by v (length auth.rounds) (hears v start answer auth f).next marks rest ≡ replies_in v (hears v start answer auth f).next marks rest
heard_by v start answer auth f marks rest = by (is_answer answer f) refl
  where
    by : (b : Bool) → is_answer answer f ≡ b → replies_by v (length auth.rounds) (hears v start answer auth f).next marks rest ≡ replies_in v (hears v start answer auth f).next marks rest
    by true e = rw e (asked_by v auth.told start auth.rounds marks rest)
    by false e = rw e (closed_by v (length auth.rounds) marks rest)

-- ---- one packet at the front of what comes

record Laws : Type 0 where
  is_front : SpelledIsFront
  is_first : SpelledIsFirst
  is_read : FirstSpelledIsRead

one_frame : (v : Server) (s : State) (m : Bool) (f : FrameOf) (marks : List Bool) (rest : List ℕ) → client_frames (spelling f ++ rest) ≡ f ∷ client_frames rest
    → replies_open v (Open s) (m ∷ marks) (spelling f ++ rest) ≡ flat_map spelling (step v.catalogue s m f).replies ++ replies_open v (Open (step v.catalogue s m f).next) marks rest
unfolding run_frames
one_frame v s m f marks rest e =
    ap (λ (fs : List FrameOf). flat_map spelling (run_frames v.catalogue s (m ∷ marks) fs).replies) e
    ∙ flat_map-append spelling (step v.catalogue s m f).replies (run_frames v.catalogue (step v.catalogue s m f).next marks (client_frames rest)).replies

one_packet : Laws → (v : Server) (s : Stage) (p : Packet) (marks : List Bool) (rest : List ℕ) → MayTake v s p
    → replies_in v s (packet_marks p ++ marks) (packet_bytes p ++ rest) ≡ flat_map spelling (serve v s p).replies ++ replies_in v (serve v s p).next marks rest
one_packet laws v (Before auth) (Starts start) marks rest h =
    ap (λ (f : FirstFront). replies_before v auth marks f) (laws.is_read (Start start) rest h)
    ∙ ap (λ (b : List ℕ). flat_map spelling (begins v auth start).replies ++ b) (started-begun v auth start marks rest)
one_packet laws v (Before auth) (Sends m f) marks rest h = absurd h
one_packet laws v (Asked start answer auth) (Starts _) marks rest h = absurd h
one_packet laws v (Asked start answer auth) (Sends m f) marks rest h =
    ap (λ (x : Front). at_front (hears v start answer auth) (replies_by v (length auth.rounds)) (m ∷ marks) x) (laws.is_front Client MAX_FRAME f rest (omega arith) h.0.whole)
    ∙ ap (λ (b : List ℕ). flat_map spelling (hears v start answer auth f).replies ++ b) (heard_by v start answer auth f marks rest)
one_packet laws v (Open s) (Starts _) marks rest h = absurd h
one_packet laws v (Open s) (Sends m f) marks rest h = one_frame v s m f marks rest (ap (λ (c : Cut). c.frames) (laws.is_first Client MAX_FRAME f rest (omega arith) h.0.whole))
one_packet laws v Closed p marks rest h = absurd h

all_packets : Laws → (v : Server) (s : Stage) (ps : List Packet) (marks : List Bool) (rest : List ℕ) → MayTakeAll v s ps
    → replies_in v s (packets_marks ps ++ marks) (packets_bytes ps ++ rest) ≡ flat_map spelling (answers v s ps) ++ replies_in v (after v s ps) marks rest
all_packets laws v s [] marks rest h = refl
all_packets laws v s (p ∷ ps) marks rest h =
    let t : Turn = serve v s p in
    ap₂ (λ (ms : List Bool) (b : List ℕ). replies_in v s ms b) (append_assoc (packet_marks p) (packets_marks ps) marks) (append_assoc (packet_bytes p) (packets_bytes ps) rest)
    ∙ one_packet laws v s p (packets_marks ps ++ marks) (packets_bytes ps ++ rest) h.0
    ∙ ap (λ (b : List ℕ). flat_map spelling t.replies ++ b) (all_packets laws v t.next ps marks rest h.1)
    ∙ sym (append_assoc (flat_map spelling t.replies) (flat_map spelling (answers v t.next ps)) (replies_in v (after v t.next ps) marks rest))
    ∙ ap (λ (b : List ℕ). b ++ replies_in v (after v t.next ps) marks rest) (sym (flat_map-append spelling t.replies (answers v t.next ps)))

-- ---- a move

-- of packets that were taken from the inbox, and of the bytes behind them
by_taken : Laws → (old : Standing) (put got more left lost : List ℕ) (ps : List Packet) (marks : List Bool) → MayTakeAll old.server old.stage ps → old.inbox ++ put ≡ packets_bytes ps ++ left → old.outbox ++ flat_map spelling (answers old.server old.stage ps) ≡ got ++ lost
    → future_with (packets_marks ps ++ marks) old (put ++ more) ≡ got ++ (lost ++ replies_in old.server (after old.server old.stage ps) marks (left ++ more))
by_taken laws old put got more left lost ps marks h i o =
    let z : List ℕ = replies_in old.server (after old.server old.stage ps) marks (left ++ more) in
    let bytes : old.inbox ++ (put ++ more) ≡ packets_bytes ps ++ (left ++ more) = sym (append_assoc old.inbox put more) ∙ ap (λ (b : List ℕ). b ++ more) i ∙ append_assoc (packets_bytes ps) left more in
    ap (λ (b : List ℕ). old.outbox ++ replies_in old.server old.stage (packets_marks ps ++ marks) b) bytes
    ∙ ap (λ (b : List ℕ). old.outbox ++ b) (all_packets laws old.server old.stage ps marks (left ++ more) h)
    ∙ sym (append_assoc old.outbox (flat_map spelling (answers old.server old.stage ps)) z)
    ∙ ap (λ (b : List ℕ). b ++ z) o ∙ append_assoc got lost z

pub futures-stay : SpelledIsFront → SpelledIsFirst → FirstSpelledIsRead → FuturesStay
futures-stay a b c old new put got more marks m f l =
    let x : Served old put (marks_since old new) new got = m.served f l in
    ap (λ (ms : List Bool). future_with (ms ++ marks) old (put ++ more)) (sym x.marks_are)
    ∙ by_taken (record { is_front = a; is_first = b; is_read = c }) old put got more new.inbox new.outbox x.taken marks x.lawful x.inbox x.outbox
    ∙ ap₂ (λ (v : Server) (s : Stage). got ++ (new.outbox ++ replies_in v s marks (new.inbox ++ more))) (sym m.server) (sym x.stage)

pub deaths-cut : SpelledIsFront → SpelledIsFirst → FirstSpelledIsRead → DeathsCut
deaths-cut a b c old new put got more marks m f l =
    let x : Passed old put (marks_since old new) got = m.passed f l in
    record {
      lost = x.lost ++ replies_in old.server (after old.server old.stage x.taken) marks (x.left ++ more);
      both = sym (by_taken (record { is_front = a; is_first = b; is_read = c }) old put got more x.left x.lost x.taken marks x.lawful x.inbox x.outbox)
          ∙ ap (λ (ms : List Bool). future_with (ms ++ marks) old (put ++ more)) x.marks_are;
    }
