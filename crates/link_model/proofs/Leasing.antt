-- The equation of a lease, by the laws of frames and of the machine alone.
use Rattle.std.proofs.Common.{◌≡◌, ⊎_elim, ℕ, Bool, true, false, List, [], ◌∷◌, ◌++◌, refl, sym, ap, ap₂, ◌∙◌, arith, append_assoc, append-nil, subst, Result, Ok}
use Rattle.std.specs.List.{flat_map, AllByRecursion}
use Rattle.std.proofs.lemmas.Bool.{cases_Bool}
use Rattle.std.proofs.lemmas.Grind.{flat_map-append}
use Rattle.frame_view.specs.declared.Side.TheVariants.{Client, Server}
use Rattle.frame_view.specs.declared.frames.TheConstants.{MAX_FRAME}
use Rattle.frame_view.specs.Frames.{FrameOf, IsFrame, Stops, Cut, front, spelling}
use Rattle.frame_view.proofs.Splitting.{splits-one_way}
use Rattle.session_run_laws.specs.declared.cause.Cause.{Cause}
use Rattle.session_run_laws.specs.State.{State, CatalogueOf, StartKeyOf, Answer, fresh}
use Rattle.session_run_laws.specs.Step.{marks_after, run_frames}
use Rattle.session_run_laws.specs.Service.{service, served, welcome, client_frames}
use Rattle.session_run_laws.specs.Laws.{IsSent, Reaches}
use Rattle.link_model.specs.Stages as stages
use Rattle.link_model.specs.Stages.{Stage, Open, Packet, packets_bytes, packets_marks, after, answers, MayTakeAll}
use Rattle.link_model.specs.Standing.{Served, Passed, marks_since}
use Rattle.link_model.proofs.Both.{lives_before}
use Rattle.link_model.proofs.InSession.{InSession, in_session}
use Rattle.link_model.specs.Links.{IsIdle, IsResting}
use Rattle.session_run_laws.specs.Settling.{IsAnswered, IsQuiet}
use Rattle.session_run_laws.proofs.ByName.{runs_go_on, runs_stay_reached, run_replies_are_frames, settled_is_quiet}
use Rattle.session_run_laws.proofs.SessionsByName.{fresh_is_reached}
use Rattle.link_model.proofs.Splits.{SplitsOff, split_off, split_whole}
use Rattle.link_model.specs.Futures.{replies_in}
use Rattle.link_model.specs.Leases.{Lease, IsUnderWay, own, IsExact, IsFront}

all_client : (fs : List FrameOf) → AllByRecursion IsSent fs → AllByRecursion (IsFrame Client MAX_FRAME) fs
all_client [] h = tt
all_client (f ∷ fs) h = (h.0.whole, all_client fs h.1)

-- the frames of a client's bytes that are these, with the beginning of one more
frames_of : (fs : List FrameOf) (tail : List ℕ) → AllByRecursion IsSent fs → Stops (front Client MAX_FRAME tail) → client_frames (flat_map spelling fs ++ tail) ≡ fs
frames_of fs tail h stops = ap (λ (c : Cut). c.frames) (splits-one_way Client MAX_FRAME (flat_map spelling fs ++ tail) fs tail (omega arith) (record { whole = refl; each = all_client fs h; stops = stops }))

-- the service of frames that a fresh session is sent
service_of : (cat : CatalogueOf) (key : StartKeyOf) (s : State) (pid secret : ℕ) (marks : List Bool) (fs : List FrameOf) (tail : List ℕ) → fresh cat key ≡ Ok s → AllByRecursion IsSent fs → Stops (front Client MAX_FRAME tail)
    → service cat key pid secret marks (flat_map spelling fs ++ tail) ≡ flat_map spelling (welcome s pid secret) ++ flat_map spelling (run_frames cat s marks fs).replies
unfolding service
service_of cat key s pid secret marks fs tail e h stops =
    ap₂ (λ (r : Result State Cause) (x : List FrameOf). flat_map spelling (served cat r pid secret marks x)) e (frames_of fs tail h stops)
    ∙ flat_map-append spelling (welcome s pid secret) (run_frames cat s marks fs).replies

-- what the frames that a server took say of those that went on
record Took (l : Lease) (s : State) (left : List ℕ) (taken : List FrameOf) : Type 0 where
  more : List FrameOf
  all : l.forwarded ≡ taken ++ more
  bytes : left ++ l.for_link ≡ flat_map spelling more ++ l.tail
  sent : AllByRecursion IsSent more

all-back : (xs ys : List FrameOf) → AllByRecursion IsSent (xs ++ ys) → AllByRecursion IsSent ys
all-back [] ys h = h
all-back (x ∷ xs) ys h = all-back xs ys h.1

took : (l : Lease) (s : State) (left : List ℕ) (taken : List FrameOf) → IsUnderWay l → AllByRecursion IsSent taken → l.sent ≡ flat_map spelling taken ++ left → Took l s left taken
took l s left taken u h e =
    let b : flat_map spelling l.forwarded ++ l.tail ≡ flat_map spelling taken ++ (left ++ l.for_link) = sym u.on_way ∙ ap (λ (x : List ℕ). x ++ l.for_link) e ∙ append_assoc (flat_map spelling taken) left l.for_link in
    let o : SplitsOff l.forwarded taken l.tail (left ++ l.for_link) = split_off Client MAX_FRAME l.forwarded taken l.tail (left ++ l.for_link) (omega arith) (all_client l.forwarded u.sent) (all_client taken h) u.in_part b in
    record { more = o.more; all = o.all; bytes = o.bytes; sent = all-back taken o.more (subst (AllByRecursion IsSent) o.all u.sent) }

-- the replies to all are those to what was taken, and then those to the rest, of which none is struck
replies-both : (cat : CatalogueOf) (s : State) (marks : List Bool) (fs gs : List FrameOf) → marks_after fs marks ≡ []
    → flat_map spelling (run_frames cat s marks (fs ++ gs)).replies ≡ flat_map spelling (run_frames cat s marks fs).replies ++ flat_map spelling (run_frames cat (run_frames cat s marks fs).next [] gs).replies
replies-both cat s marks fs gs e =
    let now : State = (run_frames cat s marks fs).next in
    ap (λ (a : Answer). flat_map spelling a.replies) (runs_go_on cat s marks fs gs)
    ∙ flat_map-append spelling (run_frames cat s marks fs).replies (run_frames cat now (marks_after fs marks) gs).replies
    ∙ ap (λ (ms : List Bool). flat_map spelling (run_frames cat s marks fs).replies ++ flat_map spelling (run_frames cat now ms gs).replies) e

-- ---- what the link took since the lease began

in_stage : (l : Lease) (s : State) (d : IsIdle l.began s) (ps : List Packet) → MayTakeAll l.began.server l.began.stage ps → InSession l.began.server s ps
in_stage l s d ps h = in_session l.began.server s ps (subst (λ (t : Stage). MayTakeAll l.began.server t ps) d.is_open h)

told : (l : Lease) (s : State) (d : IsIdle l.began s) (ps : List Packet) (i : InSession l.began.server s ps) (got lost : List ℕ) → l.began.outbox ++ flat_map spelling (answers l.began.server l.began.stage ps) ≡ got ++ lost
    → flat_map spelling (run_frames l.began.server.catalogue s (packets_marks ps) i.frames).replies ≡ got ++ lost
told l s d ps i got lost e =
    sym (ap (λ (t : Stage). flat_map spelling (answers l.began.server t ps)) d.is_open ∙ ap (flat_map spelling) i.replies)
    ∙ ap (λ (q : List ℕ). q ++ flat_map spelling (answers l.began.server l.began.stage ps)) (sym d.outbox) ∙ e

went : (l : Lease) (s : State) (d : IsIdle l.began s) (ps : List Packet) (i : InSession l.began.server s ps) (left : List ℕ) → l.began.inbox ++ l.sent ≡ packets_bytes ps ++ left → l.sent ≡ flat_map spelling i.frames ++ left
went l s d ps i left e = ap (λ (q : List ℕ). q ++ l.sent) (sym d.inbox) ∙ e ∙ ap (λ (q : List ℕ). q ++ left) i.bytes

-- it stood idle where the lease began, if it lives now
idle_then : (l : Lease) (u : IsUnderWay l) → l.link.lives ≡ true → IsIdle l.began u.clean.session
idle_then l u v = u.clean.idle (lives_before l.began l.link u.moves.dead v)

-- what is given and held, and what is still to come, where the replies to the frames that went on are these
sums_up : (w given received got more : List ℕ) → given ≡ w ++ received → got ≡ received ++ more → given ++ more ≡ w ++ got
sums_up w given received got more o e = ap (λ (p : List ℕ). p ++ more) o ∙ append_assoc w received more ∙ ap (λ (q : List ℕ). w ++ q) (sym e)

-- the lease's own service, by its fresh session
own-is : (l : Lease) (u : IsUnderWay l) → own l ≡ flat_map spelling (welcome u.clean.session l.word.pid l.word.secret) ++ flat_map spelling (run_frames l.began.server.catalogue u.clean.session (marks_since l.began l.link) l.forwarded).replies
own-is l u = service_of l.began.server.catalogue l.key u.clean.session l.word.pid l.word.secret (marks_since l.began l.link) l.forwarded l.tail u.clean.is_fresh u.sent u.in_part

pub leases-exact : (l : Lease) → IsUnderWay l → l.began.follows ≡ true → l.link.lives ≡ true → IsExact l
leases-exact l u f v =
    let x : Served l.began l.sent (marks_since l.began l.link) l.link l.received = u.moves.served f v in
    let ms : List Bool = packets_marks x.taken in
    let cat : CatalogueOf = l.began.server.catalogue in
    let s : State = u.clean.session in
    let d : IsIdle l.began s = idle_then l u v in
    let i : InSession l.began.server s x.taken = in_stage l s d x.taken x.lawful in
    let t : Took l s l.link.inbox i.frames = took l s l.link.inbox i.frames u i.sent (went l s d x.taken i l.link.inbox x.inbox) in
    let now : State = (run_frames cat s ms i.frames).next in
    let stage : l.link.stage ≡ Open now = x.stage ∙ ap (λ (q : Stage). after l.began.server q x.taken) d.is_open ∙ i.stage in
    let z : List ℕ = flat_map spelling (run_frames cat now [] t.more).replies in
    let rest : replies_in l.link.server l.link.stage [] (l.link.inbox ++ l.for_link) ≡ z =
    ap₂ (λ (w : stages.Server) (q : Stage). replies_in w q [] (l.link.inbox ++ l.for_link)) u.moves.server stage
    ∙ ap (λ (fs : List FrameOf). flat_map spelling (run_frames cat now [] fs).replies) (ap client_frames t.bytes ∙ frames_of t.more l.tail t.sent u.in_part) in
    let r : flat_map spelling (run_frames cat s ms i.frames).replies ≡ l.received ++ l.link.outbox = told l s d x.taken i l.received l.link.outbox x.outbox in
    let all : flat_map spelling (run_frames cat s (marks_since l.began l.link) l.forwarded).replies ≡ l.received ++ (l.link.outbox ++ z) =
    ap₂ (λ (ns : List Bool) (fs : List FrameOf). flat_map spelling (run_frames cat s ns fs).replies) (sym x.marks_are) t.all ∙ replies-both cat s ms i.frames t.more i.marked ∙ ap (λ (q : List ℕ). q ++ z) r ∙ append_assoc l.received l.link.outbox z in
    ap (λ (q : List ℕ). (l.given ++ l.for_client) ++ (l.link.outbox ++ q)) rest
    ∙ sums_up (flat_map spelling (welcome s l.word.pid l.word.secret)) (l.given ++ l.for_client) l.received _ (l.link.outbox ++ z) u.out all
    ∙ sym (own-is l u)

-- ---- dead or alive

-- of a link that was dead when the lease began, nothing came
front_of_dead : (l : Lease) (u : IsUnderWay l) → l.began.lives ≡ false → IsFront l
front_of_dead l u d =
    let z : List ℕ = flat_map spelling (run_frames l.began.server.catalogue u.clean.session (marks_since l.began l.link) l.forwarded).replies in
    record {
      more = z;
      both = sums_up (flat_map spelling (welcome u.clean.session l.word.pid l.word.secret)) (l.given ++ l.for_client) l.received z z u.out (ap (λ (q : List ℕ). q ++ z) (sym (u.moves.silent d).1)) ∙ sym (own-is l u);
    }

front_of_living : (l : Lease) (u : IsUnderWay l) → l.began.follows ≡ true → l.began.lives ≡ true → IsFront l
front_of_living l u f v =
    let x : Passed l.began l.sent (marks_since l.began l.link) l.received = u.moves.passed f v in
    let ms : List Bool = packets_marks x.taken in
    let cat : CatalogueOf = l.began.server.catalogue in
    let s : State = u.clean.session in
    let d : IsIdle l.began s = u.clean.idle v in
    let i : InSession l.began.server s x.taken = in_stage l s d x.taken x.lawful in
    let t : Took l s x.left i.frames = took l s x.left i.frames u i.sent (went l s d x.taken i x.left x.inbox) in
    let z : List ℕ = flat_map spelling (run_frames cat (run_frames cat s ms i.frames).next [] t.more).replies in
    let r : flat_map spelling (run_frames cat s ms i.frames).replies ≡ l.received ++ x.lost = told l s d x.taken i l.received x.lost x.outbox in
    let all : flat_map spelling (run_frames cat s (marks_since l.began l.link) l.forwarded).replies ≡ l.received ++ (x.lost ++ z) =
    ap₂ (λ (ns : List Bool) (fs : List FrameOf). flat_map spelling (run_frames cat s ns fs).replies) (sym x.marks_are) t.all ∙ replies-both cat s ms i.frames t.more i.marked ∙ ap (λ (q : List ℕ). q ++ z) r ∙ append_assoc l.received x.lost z in
    record {
      more = x.lost ++ z;
      both = sums_up (flat_map spelling (welcome s l.word.pid l.word.secret)) (l.given ++ l.for_client) l.received _ (x.lost ++ z) u.out all ∙ sym (own-is l u);
    }

pub leases-front : (l : Lease) → IsUnderWay l → l.began.follows ≡ true → IsFront l
leases-front l u f = ⊎_elim (λ v. front_of_living l u f v) (λ d. front_of_dead l u d) (cases_Bool l.began.lives)

-- ---- a settled lease

pub settled-rest : (l : Lease) (arrived : List FrameOf) → IsUnderWay l → l.began.follows ≡ true → l.link.lives ≡ true → l.for_link ≡ [] → l.tail ≡ []
    → AllByRecursion (IsFrame Server MAX_FRAME) arrived → l.received ≡ flat_map spelling arrived → IsAnswered l.forwarded arrived → IsResting l.link l.key
settled-rest l arrived u f v none whole each got a =
    let x : Served l.began l.sent (marks_since l.began l.link) l.link l.received = u.moves.served f v in
    let ms : List Bool = packets_marks x.taken in
    let cat : CatalogueOf = l.began.server.catalogue in
    let s : State = u.clean.session in
    let d : IsIdle l.began s = idle_then l u v in
    let reached : Reaches cat l.key s = fresh_is_reached cat l.key s u.clean.lawful u.clean.lawful_key u.clean.is_fresh in
    let i : InSession l.began.server s x.taken = in_stage l s d x.taken x.lawful in
    let t : Took l s l.link.inbox i.frames = took l s l.link.inbox i.frames u i.sent (went l s d x.taken i l.link.inbox x.inbox) in
    let r : flat_map spelling (run_frames cat s ms i.frames).replies ≡ flat_map spelling arrived ++ l.link.outbox = told l s d x.taken i l.received l.link.outbox x.outbox ∙ ap (λ (q : List ℕ). q ++ l.link.outbox) got in
    let b : SplitsOff (run_frames cat s ms i.frames).replies arrived [] l.link.outbox = split_whole Server MAX_FRAME (run_frames cat s ms i.frames).replies arrived l.link.outbox (omega arith) (run_replies_are_frames cat l.key s ms i.frames reached i.sent) each r in
    let q : IsQuiet cat s ms l.forwarded arrived i.frames t.more b.more = settled_is_quiet cat s ms l.forwarded arrived i.frames t.more b.more a t.all b.all in
    let now : State = (run_frames cat s ms l.forwarded).next in
    let inbox : l.link.inbox ≡ [] = sym (append-nil l.link.inbox) ∙ ap (λ (y : List ℕ). l.link.inbox ++ y) (sym none) ∙ t.bytes ∙ ap₂ (λ (fs : List FrameOf) (y : List ℕ). flat_map spelling fs ++ y) q.none_left whole in
    let same : cat ≡ l.link.server.catalogue = ap (λ (y : stages.Server). y.catalogue) (sym u.moves.server) in
    record {
      session = now;
      reached = subst (λ (y : CatalogueOf). Reaches y l.key now) same (runs_stay_reached cat l.key s ms l.forwarded reached u.sent);
      rests = q.rest;
      idle = record {
        is_open = x.stage ∙ ap (λ (y : Stage). after l.began.server y x.taken) d.is_open ∙ i.stage ∙ ap (λ (fs : List FrameOf). Open (run_frames cat s ms fs).next) q.all;
        inbox = inbox;
        outbox = b.bytes ∙ ap (λ (y : List FrameOf). flat_map spelling y ++ []) q.none_more;
      };
    }
