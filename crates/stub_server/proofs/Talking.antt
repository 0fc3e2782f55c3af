-- One packet of a client is taken, and then all of them.
use Rattle.std.proofs.Common.{◌≡◌, ℕ, zero, suc, ◌+◌, ◌-◌, ◌<◌, Bool, true, false, List, [], ◌∷◌, ◌++◌, length, drop, Result, Ok, Err, refl, sym, ap, ap₂, ◌∙◌, append_assoc, append-nil, arith, subst, length-drop, length-append, ◌⊎◌, ⊎_elim}
use Rattle.std.specs.Prelude.{◌==◌, ◌&&◌, Option, Some, None}
use Rattle.std.proofs.Math.Seq.{drop-append_seam}
use Rattle.std.proofs.lemmas.Bool.{true≢false, eqb-true}
use Rattle.std.specs.Borrow.{Bor}
use Rattle.std.specs.List.{flat_map}
use Rattle.frame_view.specs.declared.Frame.{Frame}
use Rattle.frame_view.specs.declared.FrameError.{FrameError}
use Rattle.frame_view.specs.declared.FirstStep.{FirstStep}
use Rattle.frame_view.specs.declared.FirstStep.TheVariants.{Startup, Cancel, Tls, Gss, Need, Bad}
use Rattle.frame_view.specs.declared.Step.TheVariants as found
use Rattle.frame_view.specs.declared.Side.TheVariants.{Client}
use Rattle.frame_view.specs.declared.frames.TheConstants.{MAX_FRAME}
use Rattle.frame_view.specs.declared.client.TheConstants.{TERMINATE}
use Rattle.frame_view.specs.Answers.{Tells, TellsFirst}
use Rattle.frame_view.specs.Frames.{AreBytes, FrameOf, Front, AFrame, Lacks, Faulty, Stops, Cut, FirstFront, AFirst, LacksFirst, FaultyFirst, FirstOf, Start, Cancels, AsksTls, AsksGss, first_front, first_spelling, front, spelling}
use Rattle.frame_view.specs.Laws.{FirstGrows, FirstReadIsSpelled, FrontGrows}
use Rattle.frame_view.proofs.FirstTaken.{started}
use Rattle.frame_view.proofs.Splitting.{frames-stopped}
use Rattle.frame_view.proofs.Taking.{taken}
use Rattle.message_view.specs.declared.views.KeyView.{KeyView}
use Rattle.session_machine.specs.Sessions.{SessionOf}
use Rattle.session_values.specs.declared.cause.Cause.{Cause}
use Rattle.session_values.specs.Answers.{Gave, frame_of}
use Rattle.session_values.specs.State.{State, CatalogueOf, Answer, and_then}
use Rattle.session_values.specs.Errors.{fatal}
use Rattle.session_values.specs.Step.{first_mark, has_mark, later_marks, may_be_struck, run_frames, silent, step}
use Rattle.session_values.specs.Service.{client_frames}
use Rattle.link_model.specs.Futures.{replies_open, FuturesStay}
use Rattle.link_model.specs.Stages.{Server, Open, Turn, can_strike, packet_bytes, packet_marks, let_in, opened, opens, started_by, serve}
use Rattle.link_model.specs.Stages as stages
use Rattle.link_model.specs.Standing.{Standing, Moves}
use Rattle.memory_ends.specs.Dialogues as server
use Rattle.memory_ends.proofs.Serving.{takes_frame, waits_frame, turn_refused}
use Rattle.stub_server.specs.declared.talk.Host.{Host}
use Rattle.stub_server.specs.declared.talk.Stage.{Stage}
use Rattle.stub_server.specs.declared.talk.Stage.TheVariants.{Waits, Serves}
use Rattle.stub_server.specs.declared.talk.Took.{Took}
use Rattle.stub_server.specs.declared.talk.Took.TheVariants.{Packet, Nothing, End}
use Rattle.stub_server.specs.Replies.{NOT_ENCRYPTED, asked_first, asked_within, first_reply, replies_to_first}
use Rattle.stub_server.specs.Talks.{TalkOf, AreMarksOf, Hears, IsTurn, Takes, TakesOne, after_frame, asked_from, future, replies_from, server_of, stage_of, talk_of}

-- ---- the stage of a server that was started

stage_replies : (v : Server) (r : Result State Cause) (marks : List Bool) (bytes : List ℕ) → replies_from v (stage_of (opened v r).next) marks bytes ≡ replies_open v (opened v r).next marks bytes
stage_replies v (Ok s) marks bytes = refl
stage_replies v (Err c) marks bytes = refl

-- it is asked to cancel nothing any more
stage_asked : (v : Server) (r : Result State Cause) (bytes : List ℕ) → asked_from (stage_of (opened v r).next) bytes ≡ None
stage_asked v (Ok s) bytes = refl
stage_asked v (Err c) bytes = refl

pub stub_refused : (v : Server) (r : Result State Cause) (c : Cause) (before mid after : List ℕ) → r ≡ Err c → mid ≡ before ++ spelling let_in → after ≡ mid ++ spelling (fatal c) → IsTurn (Waits 0) before after (opened v r)
stub_refused v r c before mid after e m a = let t = turn_refused v r c before mid after e m a in (ap stage_of t.0, t.1)

-- ---- first packets

-- where one may come, its answer
one_left : (v : Server) (marks : List Bool) (left : ℕ) (bytes : List ℕ) → 0 < left → replies_to_first v marks left bytes ≡ first_reply v marks (replies_to_first v marks (left - 1)) (first_front bytes)
one_left v marks zero bytes h = absurd (omega (arith, h))
one_left v marks (suc n) bytes h = let e : n ≡ suc n - 1 = omega arith in ap (λ (m : ℕ). first_reply v marks (replies_to_first v marks m) (first_front bytes)) e

-- and what it asks
asked_left : (left : ℕ) (bytes : List ℕ) → 0 < left → asked_within left bytes ≡ asked_first (asked_within (left - 1)) (first_front bytes)
asked_left zero bytes h = absurd (omega (arith, h))
asked_left (suc n) bytes h = let e : n ≡ suc n - 1 = omega arith in ap (λ (m : ℕ). asked_first (asked_within m) (first_front bytes)) e

-- such a packet stands first
record StandsFirst (p : FirstOf) (f : FirstFront) : Type 0 where
  rest : List ℕ
  is : f ≡ AFirst p rest

tls_first : (f : FirstFront) → TellsFirst Tls f → StandsFirst AsksTls f
tls_first (AFirst AsksTls rest) t = record { rest = rest; is = refl }
tls_first (AFirst AsksGss rest) t = absurd t
tls_first (AFirst (Start text) rest) t = absurd t
tls_first (AFirst (Cancels pid secret) rest) t = absurd t
tls_first (LacksFirst n) t = absurd t
tls_first (FaultyFirst fault) t = absurd t

gss_first : (f : FirstFront) → TellsFirst Gss f → StandsFirst AsksGss f
gss_first (AFirst AsksGss rest) t = record { rest = rest; is = refl }
gss_first (AFirst AsksTls rest) t = absurd t
gss_first (AFirst (Start text) rest) t = absurd t
gss_first (AFirst (Cancels pid secret) rest) t = absurd t
gss_first (LacksFirst n) t = absurd t
gss_first (FaultyFirst fault) t = absurd t

starts-at : FirstGrows → (h : Host) (left : ℕ) (part : Bor (List ℕ)) (items rest out replied : List ℕ) (next : Stage) → 0 < left → AreBytes items → TellsFirst (Startup part) (first_front items)
    → IsTurn next out replied (opens (server_of h) part.now) → rest ≡ drop (8 + length part.now) items → Takes Packet (talk_of h (Waits left) items out) (talk_of h next rest replied)
starts-at grows h left part items rest out replied next some fit t turn cut =
    let v : Server = server_of h in
    let s = started part items fit t in
    let f : List ℕ = flat_map spelling (opens v part.now).replies in
    let stands : (more : List ℕ) → first_front (items ++ more) ≡ AFirst (Start part.now) (drop (8 + length part.now) items ++ more) = λ more. (grows items more).whole (Start part.now) (drop (8 + length part.now) items) s.first in
    let here : (marks : List Bool) (more : List ℕ) → replies_to_first v marks left (items ++ more) ≡ f ++ replies_open v (opens v part.now).next marks (rest ++ more) = λ marks more.
    one_left v marks left (items ++ more) some ∙ ap (λ (x : FirstFront). first_reply v marks (replies_to_first v marks (left - 1)) x) (stands more)
    ∙ ap (λ (x : List ℕ). f ++ replies_open v (opens v part.now).next marks (x ++ more)) (sym cut) in (
      record {
        server = refl;
        marks = [];
        lawful = λ e. refl;
        same = λ later more.
            ap₂ (λ (x : List ℕ) (y : Stage). x ++ replies_from v y later (rest ++ more)) turn.1 turn.0
            ∙ ap (λ (x : List ℕ). (out ++ f) ++ x) (stage_replies v (started_by v.catalogue part.now) later (rest ++ more))
            ∙ append_assoc out f (replies_open v (opens v part.now).next later (rest ++ more)) ∙ ap (λ (x : List ℕ). out ++ x) (sym (here later more));
        asked = λ more.
            ap (λ (y : Stage). asked_from y (rest ++ more)) turn.0 ∙ stage_asked v (started_by v.catalogue part.now) (rest ++ more)
            ∙ sym (asked_left left (items ++ more) some ∙ ap (asked_first (asked_within (left - 1))) (stands more));
      },
      omega (arith, ap length cut, length-drop (8 + length part.now) items, s.within),
    )

pub takes_start : FirstGrows → (h : Host) (left : ℕ) (part : Bor (List ℕ)) (bytes items rest out replied : List ℕ) (next : Stage) → 0 < left → AreBytes bytes → bytes ≡ items → TellsFirst (Startup part) (first_front bytes)
    → IsTurn next out replied (opens (server_of h) part.now) → rest ≡ drop (8 + length part.now) items → Takes Packet (talk_of h (Waits left) items out) (talk_of h next rest replied)
takes_start grows h left part bytes items rest out replied next some fit same t turn cut =
    starts-at grows h left part items rest out replied next some (subst AreBytes same fit) (subst (λ (x : List ℕ). TellsFirst (Startup part) (first_front x)) same t) turn cut

requests-at : FirstGrows → FirstReadIsSpelled → (h : Host) (left : ℕ) (p : FirstOf) (items rest out replied : List ℕ) → 0 < left → AreBytes items → StandsFirst p (first_front items) → length (first_spelling p) ≡ 8
    → ((marks : List Bool) (again : List ℕ → List ℕ) (after : List ℕ) → first_reply (server_of h) marks again (AFirst p after) ≡ NOT_ENCRYPTED ∷ again after)
    → ((again : List ℕ → Option KeyView) (after : List ℕ) → asked_first again (AFirst p after) ≡ again after) → replied ≡ out ++ NOT_ENCRYPTED ∷ [] → rest ≡ drop 8 items
    → Takes Packet (talk_of h (Waits left) items out) (talk_of h (Waits (left - 1)) rest replied)
requests-at grows read h left p items rest out replied some fit a size answer asks written cut =
    let v : Server = server_of h in
    let spelled : items ≡ first_spelling p ++ a.rest = (read items p a.rest fit a.is).0 in
    let back : rest ≡ a.rest = cut ∙ ap₂ drop (sym size) spelled ∙ drop-append_seam (first_spelling p) a.rest in
    let stands : (more : List ℕ) → first_front (items ++ more) ≡ AFirst p (a.rest ++ more) = λ more. (grows items more).whole p a.rest a.is in
    let z : List Bool → List ℕ → List ℕ = λ marks more. replies_to_first v marks (left - 1) (rest ++ more) in
    let here : (marks : List Bool) (more : List ℕ) → replies_to_first v marks left (items ++ more) ≡ NOT_ENCRYPTED ∷ z marks more = λ marks more.
    one_left v marks left (items ++ more) some ∙ ap (λ (x : FirstFront). first_reply v marks (replies_to_first v marks (left - 1)) x) (stands more)
    ∙ answer marks (replies_to_first v marks (left - 1)) (a.rest ++ more) ∙ ap (λ (x : List ℕ). NOT_ENCRYPTED ∷ replies_to_first v marks (left - 1) (x ++ more)) (sym back) in (
      record {
        server = refl;
        marks = [];
        lawful = λ e. refl;
        same = λ later more. ap (λ (x : List ℕ). x ++ z later more) written ∙ append_assoc out (NOT_ENCRYPTED ∷ []) (z later more) ∙ ap (λ (x : List ℕ). out ++ x) (sym (here later more));
        asked = λ more. sym (asked_left left (items ++ more) some ∙ ap (asked_first (asked_within (left - 1))) (stands more)
            ∙ asks (asked_within (left - 1)) (a.rest ++ more) ∙ ap (λ (x : List ℕ). asked_within (left - 1) (x ++ more)) (sym back));
      },
      omega (arith, ap length back, ap length spelled, length-append (first_spelling p) a.rest, size),
    )

pub takes_request : FirstGrows → FirstReadIsSpelled → (h : Host) (left : ℕ) (x : FirstStep) (bytes items rest out replied : List ℕ) → (x ≡ Tls) ⊎ (x ≡ Gss) → 0 < left → AreBytes bytes → bytes ≡ items → TellsFirst x (first_front bytes)
    → replied ≡ out ++ NOT_ENCRYPTED ∷ [] → rest ≡ drop 8 items → Takes Packet (talk_of h (Waits left) items out) (talk_of h (Waits (left - 1)) rest replied)
takes_request grows read h left x bytes items rest out replied which some fit same t written cut =
    ⊎_elim (λ e. requests-at grows read h left AsksTls items rest out replied some (subst AreBytes same fit) (tls_first (first_front items) (stands Tls e)) refl (λ marks again after. refl) (λ again after. refl) written cut)
    (λ e. requests-at grows read h left AsksGss items rest out replied some (subst AreBytes same fit) (gss_first (first_front items) (stands Gss e)) refl (λ marks again after. refl) (λ again after. refl) written cut) which
  where
    stands : (y : FirstStep) → x ≡ y → TellsFirst y (first_front items)
    stands y e = subst (λ (z : FirstStep). TellsFirst z (first_front items)) e (subst (λ (b : List ℕ). TellsFirst x (first_front b)) same t)

-- nothing is taken
unchanged : (t : TalkOf) → Hears t t []
unchanged t = record { server = refl; marks = []; lawful = λ e. refl; same = λ later more. refl; asked = λ more. refl }

lacks-at : (v : Server) (again : List ℕ → List ℕ) (n : ℕ) (f : FirstFront) → TellsFirst (Need n) f → first_reply v [] again f ≡ []
lacks-at v again n (LacksFirst m) t = refl
lacks-at v again n (AFirst AsksTls rest) t = absurd t
lacks-at v again n (AFirst AsksGss rest) t = absurd t
lacks-at v again n (AFirst (Start text) rest) t = absurd t
lacks-at v again n (AFirst (Cancels pid secret) rest) t = absurd t
lacks-at v again n (FaultyFirst fault) t = absurd t

pub first_waits : (h : Host) (left n : ℕ) (bytes items out : List ℕ) → 0 < left → bytes ≡ items → TellsFirst (Need n) (first_front bytes) → Takes Nothing (talk_of h (Waits left) items out) (talk_of h (Waits left) items out)
first_waits h left n bytes items out some same t = (
  unchanged (talk_of h (Waits left) items out),
  one_left (server_of h) [] left items some ∙ lacks-at (server_of h) (replies_to_first (server_of h) [] (left - 1)) n (first_front items) (subst (λ (x : List ℕ). TellsFirst (Need n) (first_front x)) same t),
)

-- ---- what ends a talk before its session

-- nothing is said to what stands first, and this is what it asks
record IsSilentAt (items : List ℕ) (asked : Option KeyView) : Type 0 where
  silent : (v : Server) (marks : List Bool) (again : List ℕ → List ℕ) (more : List ℕ) → first_reply v marks again (first_front (items ++ more)) ≡ []
  asked_is : (again : List ℕ → Option KeyView) (more : List ℕ) → asked_first again (first_front (items ++ more)) ≡ asked

silent_ends : (h : Host) (left : ℕ) (items out : List ℕ) (asked : Option KeyView) → 0 < left → IsSilentAt items asked → Takes (End asked) (talk_of h (Waits left) items out) (talk_of h (Waits left) items out)
silent_ends h left items out asked some x = (
  unchanged (talk_of h (Waits left) items out),
  record {
    silent = λ marks more. one_left (server_of h) marks left (items ++ more) some ∙ x.silent (server_of h) marks (replies_to_first (server_of h) marks (left - 1)) more;
    asked_is = λ more. asked_left left (items ++ more) some ∙ x.asked_is (asked_within (left - 1)) more;
  },
)

abbrev key_of : ℕ → ℕ → KeyView
key_of pid secret = record { pid = pid; secret = secret }

cancel-at : FirstGrows → (pid secret : ℕ) (items : List ℕ) (f : FirstFront) → first_front items ≡ f → TellsFirst (Cancel pid secret) f → IsSilentAt items (Some (key_of pid secret))
cancel-at grows pid secret items (AFirst (Cancels p s) rest) e t =
    let stands : (more : List ℕ) → first_front (items ++ more) ≡ AFirst (Cancels p s) (rest ++ more) = λ more. (grows items more).whole (Cancels p s) rest e in
    record {
      silent = λ v marks again more. ap (first_reply v marks again) (stands more);
      asked_is = λ again more. ap (asked_first again) (stands more) ∙ ap₂ (λ (x y : ℕ). Some (key_of x y)) (sym t.0) (sym t.1);
    }
cancel-at grows pid secret items (AFirst AsksTls rest) e t = absurd t
cancel-at grows pid secret items (AFirst AsksGss rest) e t = absurd t
cancel-at grows pid secret items (AFirst (Start text) rest) e t = absurd t
cancel-at grows pid secret items (LacksFirst n) e t = absurd t
cancel-at grows pid secret items (FaultyFirst fault) e t = absurd t

fault-at : FirstGrows → (fault : FrameError) (items : List ℕ) (f : FirstFront) → first_front items ≡ f → TellsFirst (Bad fault) f → IsSilentAt items None
fault-at grows fault items (FaultyFirst other) e t =
    let stands : (more : List ℕ) → first_front (items ++ more) ≡ FaultyFirst other = λ more. (grows items more).fault other e in
    record { silent = λ v marks again more. ap (first_reply v marks again) (stands more); asked_is = λ again more. ap (asked_first again) (stands more) }
fault-at grows fault items (AFirst AsksTls rest) e t = absurd t
fault-at grows fault items (AFirst AsksGss rest) e t = absurd t
fault-at grows fault items (AFirst (Start text) rest) e t = absurd t
fault-at grows fault items (AFirst (Cancels pid secret) rest) e t = absurd t
fault-at grows fault items (LacksFirst n) e t = absurd t

pub cancel_ends : FirstGrows → (h : Host) (left pid secret : ℕ) (bytes items out : List ℕ) → 0 < left → bytes ≡ items → TellsFirst (Cancel pid secret) (first_front bytes) → Takes (End (Some (key_of pid secret))) (talk_of h (Waits left) items out) (talk_of h (Waits left) items out)
cancel_ends grows h left pid secret bytes items out some same t =
    silent_ends h left items out (Some (key_of pid secret)) some (cancel-at grows pid secret items (first_front items) refl (subst (λ (x : List ℕ). TellsFirst (Cancel pid secret) (first_front x)) same t))

pub fault_ends : FirstGrows → (h : Host) (left : ℕ) (fault : FrameError) (bytes items out : List ℕ) → 0 < left → bytes ≡ items → TellsFirst (Bad fault) (first_front bytes) → Takes (End None) (talk_of h (Waits left) items out) (talk_of h (Waits left) items out)
fault_ends grows h left fault bytes items out some same t =
    silent_ends h left items out None some (fault-at grows fault items (first_front items) refl (subst (λ (x : List ℕ). TellsFirst (Bad fault) (first_front x)) same t))

-- ---- frames

abbrev standing : Server → stages.Stage → List ℕ → List ℕ → List Bool → Standing
standing v s inbox given marks = record { follows = true; lives = true; server = v; stage = s; inbox = inbox; outbox = []; accepted = []; given = given; struck = marks; faults = 0; read_waits = 0; write_waits = 0 }

-- a frame that was taken leaves the future as it was, by its mark
hears_frame : FuturesStay → (v : Server) (s next : State) (m : Bool) (items rest out replied : List ℕ) (later : List Bool) (more : List ℕ) → server.Takes v (Open s) (Open next) items rest out replied [] (m ∷ [])
    → replied ++ replies_open v (Open next) later (rest ++ more) ≡ out ++ replies_open v (Open s) (m ∷ later) (items ++ more)
hears_frame stay v s next m items rest out replied later more x =
    let f : List ℕ = flat_map spelling (serve v (Open s) x.packet).replies in
    let marks : packet_marks x.packet ++ [] ≡ m ∷ [] = append-nil (packet_marks x.packet) ∙ sym x.marks in
    let inbox : items ++ [] ≡ (packet_bytes x.packet ++ []) ++ rest = append-nil items ∙ x.front ∙ ap (λ (b : List ℕ). b ++ rest) (sym (append-nil (packet_bytes x.packet))) in
    let outbox : flat_map spelling ((serve v (Open s) x.packet).replies ++ []) ≡ f ++ [] = ap (flat_map spelling) (append-nil (serve v (Open s) x.packet).replies) ∙ sym (append-nil f) in
    let moves : Moves (standing v (Open s) items [] []) [] (standing v (Open next) rest f (m ∷ [])) f = record {
      follows = refl;
      server = refl;
      dead = λ d. absurd (true≢false d);
      silent = λ d. absurd (true≢false d);
      accepted = refl;
      given = refl;
      noted = refl;
      unstruck = λ d. absurd (true≢false d);
      served = λ w l. record { taken = x.packet ∷ []; lawful = (x.lawful, tt); marks_are = marks; inbox = inbox; stage = x.stage; outbox = outbox };
      passed = λ w l. record { taken = x.packet ∷ []; lawful = (x.lawful, tt); marks_are = marks; left = rest; lost = []; inbox = inbox; outbox = outbox };
    } in
    ap (λ (b : List ℕ). b ++ replies_open v (Open next) later (rest ++ more)) x.replies ∙ append_assoc out f (replies_open v (Open next) later (rest ++ more))
    ∙ ap (λ (b : List ℕ). out ++ b) (sym (stay (standing v (Open s) items [] []) (standing v (Open next) rest f (m ∷ [])) [] f more later moves refl refl))

-- what no cancel reaches isn't struck
lawful_mark : (v : Server) (s : State) (m : Bool) (f : FrameOf) → (m ≡ true → can_strike v s f ≡ true) → AreMarksOf v (m ∷ [])
lawful_mark v s false f h e = refl
lawful_mark v s true f h e = absurd (true≢false (sym (h refl) ∙ ap (λ (b : Bool). b && may_be_struck s f) e))

-- a session that has ended answers nothing
step_ended : (cat : CatalogueOf) (s : State) (m : Bool) (f : FrameOf) → s.ended ≡ true → step cat s m f ≡ silent s
unfolding step
step_ended cat s m f e = rw e refl

run_ended : (cat : CatalogueOf) (marks : List Bool) (fs : List FrameOf) (s : State) → s.ended ≡ true → (run_frames cat s marks fs).replies ≡ []
unfolding run_frames
run_ended cat marks [] s e = refl
run_ended cat marks (f ∷ fs) s e = ap (λ (a : Answer). (and_then a (λ (t : State). run_frames cat t (later_marks marks) fs)).replies) (step_ended cat s (first_mark marks) f e) ∙ run_ended cat (later_marks marks) fs s e

terminated : (cat : CatalogueOf) (s : State) (m : Bool) (body : List ℕ) → (step cat s m (record { kind = TERMINATE; body = body })).next.ended ≡ true
unfolding step
terminated cat s m body = by s.ended s.skipping refl refl
  where
    by : (b c : Bool) → s.ended ≡ b → s.skipping ≡ c → (step cat s m (record { kind = TERMINATE; body = body })).next.ended ≡ true
    by true c e k = rw e refl
    by false true e k = rw (e, k) refl
    by false false e k = rw (e, k) refl

pub takes_frame_here : FuturesStay → (h : Host) (cat : CatalogueOf) (s next : SessionOf) (m : Bool) (frame : Frame) (took : Took) (bytes items rest out replied : List ℕ) → took ≡ after_frame frame.kind → cat ≡ (server_of h).catalogue → AreBytes bytes → bytes ≡ items
    → Tells (found.Whole frame) bytes (front Client MAX_FRAME bytes) → (m ≡ true → can_strike (server_of h) s.state (frame_of frame) ≡ true) → Gave next.state out replied (step cat s.state m (frame_of frame)) → rest ≡ drop (length frame.whole.now) items
    → Takes took (talk_of h (Serves s) items out) (talk_of h (Serves next) rest replied)
takes_frame_here stay h cat s next m frame took bytes items rest out replied w d fit same t may gave left =
    subst (λ (x : Took). Takes x (talk_of h (Serves s) items out) (talk_of h (Serves next) rest replied)) (sym w) (by (frame.kind == TERMINATE) refl)
  where
    v : Server
    v = server_of h

    x : server.Takes v (Open s.state) (Open next.state) items rest out replied [] (m ∷ [])
    x = takes_frame v cat s.state next.state m frame bytes items rest out replied [] (m ∷ []) d fit same t may refl gave left

    heard : Hears (talk_of h (Serves s) items out) (talk_of h (Serves next) rest replied) []
    heard = record {
      server = refl;
      marks = m ∷ [];
      lawful = lawful_mark v s.state m (frame_of frame) may;
      same = λ later more. hears_frame stay v s.state next.state m items rest out replied later more x;
      asked = λ more. refl;
    }

    by : (b : Bool) → (frame.kind == TERMINATE) ≡ b → Takes (after_frame frame.kind) (talk_of h (Serves s) items out) (talk_of h (Serves next) rest replied)
    by true e =
        let ended : next.state.ended ≡ true = ap (λ (u : State). u.ended) gave.next ∙ ap (λ (k : ℕ). (step cat s.state m (record { kind = k; body = frame.body.now })).next.ended) (eqb-true frame.kind TERMINATE e) ∙ terminated cat s.state m frame.body.now in
        rw e (heard, record { silent = λ marks more. ap (flat_map spelling) (run_ended v.catalogue marks (client_frames (rest ++ more)) next.state ended); asked_is = λ more. refl })
    by false e =
        let k = taken Client MAX_FRAME frame items (subst (λ (b : List ℕ). Tells (found.Whole frame) b (front Client MAX_FRAME b)) same t) in
        rw e (heard, omega (arith, ap length left, length-drop (length frame.whole.now) items, k.within, k.some))

pub frame_waits : (h : Host) (s : SessionOf) (n : ℕ) (bytes items out : List ℕ) → bytes ≡ items → Tells (found.Need n) bytes (front Client MAX_FRAME bytes) → Takes Nothing (talk_of h (Serves s) items out) (talk_of h (Serves s) items out)
frame_waits h s n bytes items out same t = (unchanged (talk_of h (Serves s) items out), (waits_frame (server_of h) s.state (found.Need n) bytes items out [] same (λ f e. absurd cc) t).answered)

faulty_of : (fault : FrameError) (bytes : List ℕ) (f : Front) → Tells (found.Bad fault) bytes f → f ≡ Faulty fault
faulty_of fault bytes (Faulty other) t = ap Faulty (sym t)
faulty_of fault bytes (AFrame kind body rest) t = absurd t
faulty_of fault bytes (Lacks n) t = absurd t

pub frame_ends : FrontGrows → (h : Host) (s : SessionOf) (fault : FrameError) (bytes items out : List ℕ) → bytes ≡ items → Tells (found.Bad fault) bytes (front Client MAX_FRAME bytes) → Takes (End None) (talk_of h (Serves s) items out) (talk_of h (Serves s) items out)
unfolding run_frames
frame_ends grows h s fault bytes items out same t = (
  unchanged (talk_of h (Serves s) items out),
  record {
    silent = λ marks more.
        let e : front Client MAX_FRAME (items ++ more) ≡ Faulty fault = ap (λ (b : List ℕ). front Client MAX_FRAME (b ++ more)) (sym same) ∙ (grows Client MAX_FRAME bytes more).fault fault (faulty_of fault bytes (front Client MAX_FRAME bytes) t) in
        ap (λ (c : Cut). flat_map spelling (run_frames (server_of h).catalogue s.state marks c.frames).replies) (frames-stopped Client MAX_FRAME (items ++ more) (subst Stops (sym e) tt));
    asked_is = λ more. refl;
  },
)

-- ---- all packets

unmarked_both : (ms ns : List Bool) → has_mark ms ≡ false → has_mark ns ≡ false → has_mark (ms ++ ns) ≡ false
unmarked_both [] ns e f = f
unmarked_both (true ∷ ms) ns e f = absurd (true≢false e)
unmarked_both (false ∷ ms) ns e f = unmarked_both ms ns e f

pub lawful_both : (v : Server) (ms ns : List Bool) → AreMarksOf v ms → AreMarksOf v ns → AreMarksOf v (ms ++ ns)
lawful_both v ms ns x y e = unmarked_both ms ns (x e) (y e)

pub hears_both : (a b c : TalkOf) (bytes : List ℕ) → Hears a b bytes → Hears b c [] → Hears a c bytes
hears_both a b c bytes x y = record {
  server = y.server ∙ x.server;
  marks = x.marks ++ y.marks;
  lawful = lawful_both a.server x.marks y.marks x.lawful (subst (λ (v : Server). AreMarksOf v y.marks) x.server y.lawful);
  same = λ later more. y.same later more ∙ x.same (y.marks ++ later) more ∙ ap (λ (ms : List Bool). future a ms (bytes ++ more)) (sym (append_assoc x.marks y.marks later));
  asked = λ more. y.asked more ∙ x.asked more;
}

-- one packet after another
pub goes_on : (taken : Bool) (a b c : TalkOf) → taken ≡ true → Hears a b [] → TakesOne taken b c → Hears a c []
goes_on true a b c e x y = hears_both a b c [] x y.0
goes_on false a b c e x y = absurd (true≢false (sym e))

pub is_done : (taken : Bool) (a b c : TalkOf) → taken ≡ false → Hears a b [] → TakesOne taken b c → TakesOne false a c
is_done true a b c e x y = absurd (true≢false e)
is_done false a b c e x y = (hears_both a b c [] x y.0, y.1)
