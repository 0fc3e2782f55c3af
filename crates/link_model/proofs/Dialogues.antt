-- What a server answers to a start, and what is known once some of it came.
use Rattle.std.proofs.Common.{◌≡◌, ⊎_elim, ℕ, ◌+◌, ◌<◌, ◌^◌, Bool, true, false, List, [], ◌∷◌, ◌++◌, map, length, drop, refl, sym, ap, ap₂, ◌∙◌, append_assoc, append-nil, subst, arith, Option, Some, None, Result, Ok, Err}
use Rattle.std.specs.Prelude.{◌==◌, ◌||◌, ◌&&◌, not, if◌then◌else◌}
use Rattle.std.specs.List.{flat_map, AllByRecursion}
use Rattle.std.specs.Int.{w32, to_be_bytes}
use Rattle.std.proofs.lemmas.Bool.{cases_Bool, true≢false}
use Rattle.std.proofs.lemmas.Grind.{flat_map-append}
use Rattle.frame_view.specs.declared.Side.TheVariants.{Server as FromServer}
use Rattle.frame_view.specs.declared.first.TheConstants.{PROTOCOL_3_0}
use Rattle.frame_view.specs.declared.server.TheConstants.{READY_FOR_QUERY}
use Rattle.frame_view.specs.Frames.{FrameOf, Front, AFrame, Lacks, Faulty, IsFrame, Start, first_spelling, front, spelling}
use Rattle.frame_view.proofs.Cuts.{front-spelling}
use Rattle.message_view.specs.Bodies.{Text}
use Rattle.message_view.specs.Messages.{backend_key_data, ready_for_query}
use Rattle.message_view.specs.declared.kinds.TheConstants.{IDLE}
use Rattle.session_run_laws.specs.declared.cause.Cause.{Cause}
use Rattle.session_run_laws.specs.declared.parameter.Parameter.{Parameter}
use Rattle.session_run_laws.specs.Errors.{fatal}
use Rattle.session_run_laws.specs.Lawful.{IsLawfulCatalogue, IsClientKey}
use Rattle.session_run_laws.specs.Parameters.{reported_parameters}
use Rattle.session_run_laws.specs.State.{State, StartKeyOf, fresh, all_reports, all_reports_from}
use Rattle.session_run_laws.specs.Laws.{has_ready}
use Rattle.session_run_laws.specs.Step.{asked, is_statement}
use Rattle.session_run_laws.specs.Starts.{Welcomes}
use Rattle.session_run_laws.proofs.SessionsByName.{fresh_is_reached, welcome_is_read, start_error_is_short}
use Rattle.link_model.specs.Stages.{Server, Auth, Question, Round, Stage, Before, Asked, Open, Closed, Packet, Starts, Sends, Turn, asks, can_strike, packet_bytes, packets_bytes, let_in, wrong_password, opened, started_by, opens, begins, goes_on, is_answer, serve, after, answers, MayTake, MayTakeAll}
use Rattle.link_model.specs.Standing.{Standing, Served, Passed, marks_since}
use Rattle.link_model.specs.Starts.{start_body}
use Rattle.link_model.specs.Links.{IsIdle}
use Rattle.link_model.specs.Dialogues.{answer_message, answer_packets, start_packets, start_replies, AreToRounds, AreToQuestions, IsInFrame, auth_of, IsNew, FitsPacket, IsShortReply, SplitsPackets, IsTold, StartRepliesAreFrames, StartPacketsSplit, StartsAreTold, StartedIsFresh}
use Rattle.link_model.proofs.Both.{answers-append}
use Rattle.link_model.proofs.Splits.{SplitsOff, split_whole}
use Rattle.link_model.proofs.Starting.{started-of}

-- ---- packets come off in one way

kind_in : Front → ℕ
kind_in (AFrame kind body rest) = kind
kind_in (Lacks n) = 0
kind_in (Faulty fault) = 0

body_in : Front → List ℕ
body_in (AFrame kind body rest) = body
body_in (Lacks n) = []
body_in (Faulty fault) = []

rest_in : Front → List ℕ
rest_in (AFrame kind body rest) = rest
rest_in (Lacks n) = []
rest_in (Faulty fault) = []

abbrev limit : ℕ
limit = 4294967295

record SameFrame (f g : FrameOf) (a b : List ℕ) : Type 0 where
  kind : f.kind ≡ g.kind
  body : f.body ≡ g.body
  rest : a ≡ b

-- frames whose lengths fit their fields
same_frame : (f g : FrameOf) (a b : List ℕ) → 4 + length f.body < 2 ^ 32 → 4 + length g.body < 2 ^ 32 → spelling f ++ a ≡ spelling g ++ b → SameFrame f g a b
unfolding kind_in body_in rest_in
same_frame f g a b h k e =
    let x : front FromServer limit (spelling f ++ a) ≡ AFrame f.kind f.body a = front-spelling FromServer limit f a (omega arith) (record { of_type = refl; size = omega (arith, h) }) in
    let y : front FromServer limit (spelling g ++ b) ≡ AFrame g.kind g.body b = front-spelling FromServer limit g b (omega arith) (record { of_type = refl; size = omega (arith, k) }) in
    let z : AFrame f.kind f.body a ≡ AFrame g.kind g.body b = sym x ∙ ap (front FromServer limit) e ∙ y in
    record { kind = ap kind_in z; body = ap body_in z; rest = ap rest_in z }

-- a StartupMessage is a frame without its type byte
abbrev as_frame : List ℕ → FrameOf
as_frame start = record { kind = 0; body = to_be_bytes w32 PROTOCOL_3_0 ++ start }

as_start : (x a : List ℕ) → spelling (as_frame x) ++ a ≡ 0 ∷ (first_spelling (Start x) ++ a)
as_start x a = let size : 4 + length (as_frame x).body ≡ 8 + length x = omega arith in ap (λ (n : ℕ). 0 ∷ ((to_be_bytes w32 n ++ to_be_bytes w32 PROTOCOL_3_0 ++ x) ++ a)) size

same_start : (x y a b : List ℕ) → 8 + length x < 2 ^ 32 → 8 + length y < 2 ^ 32 → first_spelling (Start x) ++ a ≡ first_spelling (Start y) ++ b → (x ≡ y) × (a ≡ b)
same_start x y a b h k e =
    let s : SameFrame (as_frame x) (as_frame y) a b = same_frame (as_frame x) (as_frame y) a b (omega (arith, h)) (omega (arith, k)) (as_start x a ∙ ap (λ (bs : List ℕ). 0 ∷ bs) e ∙ sym (as_start y b)) in
    (ap (λ (bs : List ℕ). drop 4 bs) s.body, s.rest)

same_sent : (f g : FrameOf) (a b : List ℕ) → 4 + length f.body < 2 ^ 32 → 4 + length g.body < 2 ^ 32 → spelling f ++ a ≡ spelling g ++ b → (f ≡ g) × (a ≡ b)
same_sent f g a b h k e =
    let s : SameFrame f g a b = same_frame f g a b h k e in
    (ap₂ (λ (n : ℕ) (bs : List ℕ). record { kind = n; body = bs }) s.kind s.body, s.rest)

abbrev sends : Bool → FrameOf → Packet
sends m f = Sends m f

-- neither is struck
both_unstruck : (m n : Bool) (f g : FrameOf) → m ≡ false → n ≡ false → f ≡ g → Sends m f ≡ Sends n g
both_unstruck m n f g d e h = ap₂ sends (d ∙ sym e) h

-- a frame that no cancel strikes
none_of : (a b c d : Bool) → d ≡ false → (a && (b && (c && d))) ≡ false
none_of true true true d e = e
none_of true true false d e = refl
none_of true false c d e = refl
none_of false b c d e = refl

unstruck_by : (n : Bool) (v : Server) (s : State) (f g : FrameOf) → is_statement (asked f.kind) ≡ false → f ≡ g → (n ≡ true → can_strike v s g ≡ true) → n ≡ false
unstruck_by true v s f g e h k = absurd (true≢false (sym (k refl) ∙ ap (λ (x : FrameOf). can_strike v s x) (sym h) ∙ none_of v.strikable (not s.ended) (not s.skipping) (is_statement (asked f.kind)) e))
unstruck_by false v s f g e h k = refl

-- a frame whose length fits its field, and that no cancel strikes
abbrev IsUnstruck : Bool → FrameOf → Type 0
IsUnstruck m f = (m ≡ false) × (is_statement (asked f.kind) ≡ false) × (4 + length f.body < 2 ^ 32)

-- a StartupMessage first, and frames after it, whose lengths fit their fields
abbrev IsInTurn : Stage → Packet → Type 0
IsInTurn (Before auth) (Starts start) = 8 + length start < 2 ^ 32
IsInTurn (Before auth) (Sends m f) = ⊥
IsInTurn (Asked start answer rest) (Starts x) = ⊥
IsInTurn (Asked start answer rest) (Sends m f) = IsUnstruck m f
IsInTurn (Open s) (Starts x) = ⊥
IsInTurn (Open s) (Sends m f) = IsUnstruck m f
IsInTurn Closed (Starts x) = ⊥
IsInTurn Closed (Sends m f) = IsUnstruck m f

abbrev AreInTurn : Server → Stage → List Packet → Type 0
AreInTurn v s [] = Unit {0}
AreInTurn v s (p ∷ ps) = IsInTurn s p × AreInTurn v (serve v s p).next ps

same_packet : (v : Server) (s : Stage) (p t : Packet) (a b : List ℕ) → IsInTurn s p → MayTake v s t → packet_bytes p ++ a ≡ packet_bytes t ++ b → (p ≡ t) × (a ≡ b)
same_packet v (Before auth) (Starts x) (Starts y) a b h k e = let s = same_start x y a b h (omega (arith, k)) e in (ap Starts s.0, s.1)
same_packet v (Before auth) (Starts x) (Sends n g) a b h k e = absurd k
same_packet v (Before auth) (Sends m f) t a b h k e = absurd h
same_packet v (Asked x y u) (Starts z) t a b h k e = absurd h
same_packet v (Asked x y u) (Sends m f) (Starts z) a b h k e = absurd k
same_packet v (Asked x y u) (Sends m f) (Sends n g) a b h k e = let s = same_sent f g a b h.2 (let z = k.0.whole.size in omega (arith, z)) e in (both_unstruck m n f g h.0 k.1 s.0, s.1)
same_packet v (Open s) (Starts z) t a b h k e = absurd h
same_packet v (Open s) (Sends m f) (Starts z) a b h k e = absurd k
same_packet v (Open s) (Sends m f) (Sends n g) a b h k e = let q = same_sent f g a b h.2 (let z = k.0.whole.size in omega (arith, z)) e in (both_unstruck m n f g h.0 (unstruck_by n v s f g h.1 q.0 k.1) q.0, q.1)
same_packet v Closed (Starts z) t a b h k e = absurd h
same_packet v Closed (Sends m f) t a b h k e = absurd k

no_packet : {A : Type 0} (t : Packet) (bs : List ℕ) → [] ≡ packet_bytes t ++ bs → A
no_packet (Starts x) bs e = absurd cc
no_packet (Sends m f) bs e = absurd cc

pub split_packets : (v : Server) (s : Stage) (ps ts : List Packet) (rest : List ℕ) → AreInTurn v s ps → MayTakeAll v s ts → packets_bytes ps ≡ packets_bytes ts ++ rest → SplitsPackets ps ts rest
split_packets v s ps [] rest h k e = record { more = ps; all = refl; bytes = sym e }
split_packets v s [] (t ∷ ts) rest h k e = no_packet t (packets_bytes ts ++ rest) (e ∙ append_assoc (packet_bytes t) (packets_bytes ts) rest)
split_packets v s (p ∷ ps) (t ∷ ts) rest h k e =
    let q = same_packet v s p t (packets_bytes ps) (packets_bytes ts ++ rest) h.0 k.0 (e ∙ append_assoc (packet_bytes t) (packets_bytes ts) rest) in
    let r : SplitsPackets ps ts rest = split_packets v (serve v s p).next ps ts rest h.1 (subst (λ (x : Packet). MayTakeAll v (serve v s x).next ts) (sym q.0) k.1) q.1 in
    record { more = r.more; all = ap₂ (λ (x : Packet) (xs : List Packet). x ∷ xs) q.0 r.all; bytes = r.bytes }

-- ---- a start's packets are in turn

-- it has had its StartupMessage
abbrev HasStart : Stage → Type 0
HasStart (Before auth) = ⊥
HasStart (Asked start answer rest) = Unit {0}
HasStart (Open s) = Unit {0}
HasStart Closed = Unit {0}

opened_has : (v : Server) (r : Result State Cause) → HasStart (opened v r).next
opened_has v (Ok s) = tt
opened_has v (Err c) = tt

asks_has : (v : Server) (told : List Question) (start : List ℕ) (rounds : List Round) → HasStart (goes_on v told start rounds).next
asks_has v told start [] = opened_has v (started_by v.catalogue start)
asks_has v told start (r ∷ rs) = tt

hears_has : (v : Server) (start : List ℕ) (rest : Auth) (b : Bool) → HasStart (if b then begins v rest start else record { next = Closed; replies = wrong_password ∷ [] }).next
hears_has v start rest true = asks_has v rest.told start rest.rounds
hears_has v start rest false = tt

sent_has : (v : Server) (s : Stage) (m : Bool) (f : FrameOf) → HasStart s → HasStart (serve v s (Sends m f)).next
sent_has v (Before auth) m f h = absurd h
sent_has v (Asked start answer rest) m f h = hears_has v start rest (is_answer answer f)
sent_has v (Open s) m f h = tt
sent_has v Closed m f h = tt

sent_turn : (s : Stage) (m : Bool) (f : FrameOf) → HasStart s → IsUnstruck m f → IsInTurn s (Sends m f)
sent_turn (Before auth) m f h u = absurd h
sent_turn (Asked start answer rest) m f h u = u
sent_turn (Open s) m f h u = u
sent_turn Closed m f h u = u

answers_turn : (v : Server) (s : Stage) (given : List (List ℕ)) → HasStart s → AllByRecursion FitsPacket (answer_packets given) → AreInTurn v s (answer_packets given)
answers_turn v s [] h fits = tt
answers_turn v s (a ∷ given) h fits = (
  sent_turn s false (answer_message a) h (refl, refl, fits.0),
  answers_turn v (serve v s (Sends false (answer_message a))).next given (sent_has v s false (answer_message a) h) fits.1,
)

start_turn : (v : Server) (auth : Auth) (key : StartKeyOf) (given : List (List ℕ)) → AllByRecursion FitsPacket (start_packets key given) → AreInTurn v (Before auth) (start_packets key given)
start_turn v auth key given h = (h.0, answers_turn v (begins v auth (start_body key)).next given (asks_has v auth.told (start_body key) auth.rounds) h.1)

pub start_packets-split : StartPacketsSplit
start_packets-split v auth key given taken rest h k e = split_packets v (Before auth) (start_packets key given) taken rest (start_turn v auth key given h) k e

-- ---- what came is a front of what is answered

all-front : {A : Type 0} (P : A → Type 0) (xs ys : List A) → AllByRecursion P (xs ++ ys) → AllByRecursion P xs
all-front P [] ys h = tt
all-front P (x ∷ xs) ys h = (h.0, all-front P xs ys h.1)

-- what a server took of a start, and what it said then
record Took (v : Server) (auth : Auth) (key : StartKeyOf) (given : List (List ℕ)) (got : List FrameOf) (tail lost left : List ℕ) (taken : List Packet) : Type 0 where
  untaken : List Packet
  more : List FrameOf
  all : start_packets key given ≡ taken ++ untaken
  frames : answers v (Before auth) taken ≡ got ++ more
  inbox : left ≡ packets_bytes untaken
  outbox : tail ++ lost ≡ flat_map spelling more

took : (limit : ℕ) (began : Standing) (key : StartKeyOf) (given : List (List ℕ)) (sent unsent received tail left lost : List ℕ) (got : List FrameOf) (taken : List Packet) → limit < 2 ^ 32 → IsNew began
    → sent ++ unsent ≡ packets_bytes (start_packets key given) → AllByRecursion FitsPacket (start_packets key given)
    → AllByRecursion (IsFrame FromServer limit) (start_replies began.server (auth_of began.stage) key given) → AllByRecursion (IsFrame FromServer limit) got
    → received ≡ flat_map spelling got ++ tail → MayTakeAll began.server began.stage taken → began.inbox ++ sent ≡ packets_bytes taken ++ left
    → began.outbox ++ flat_map spelling (answers began.server began.stage taken) ≡ received ++ lost
    → Took began.server (auth_of began.stage) key given got tail lost (left ++ unsent) taken
took limit began key given sent unsent received tail left lost got taken low n al fits short each r lawful i o =
    let v : Server = began.server in
    let auth : Auth = auth_of began.stage in
    let law : MayTakeAll v (Before auth) taken = subst (λ (t : Stage). MayTakeAll v t taken) n.stage lawful in
    let e0 : sent ≡ packets_bytes taken ++ left = ap (λ (b : List ℕ). b ++ sent) (sym n.inbox) ∙ i in
    let ei : packets_bytes (start_packets key given) ≡ packets_bytes taken ++ (left ++ unsent) =
    sym al ∙ (ap (λ (b : List ℕ). b ++ unsent) e0 ∙ append_assoc (packets_bytes taken) left unsent) in
    let a : SplitsPackets (start_packets key given) taken (left ++ unsent) = start_packets-split v auth key given taken (left ++ unsent) fits law ei in
    let whole : start_replies v auth key given ≡ answers v (Before auth) taken ++ answers v (after v (Before auth) taken) a.more =
    ap (λ (ps : List Packet). answers v (Before auth) ps) a.all ∙ answers-append v (Before auth) taken a.more in
    let eo : flat_map spelling (answers v (Before auth) taken) ≡ flat_map spelling got ++ (tail ++ lost) =
    ap (λ (t : Stage). flat_map spelling (answers v t taken)) (sym n.stage) ∙ (ap (λ (b : List ℕ). b ++ flat_map spelling (answers v began.stage taken)) (sym n.outbox) ∙ (o ∙ (ap (λ (b : List ℕ). b ++ lost) r ∙ append_assoc (flat_map spelling got) tail lost))) in
    let b : SplitsOff (answers v (Before auth) taken) got [] (tail ++ lost) = split_whole FromServer limit (answers v (Before auth) taken) got (tail ++ lost) low
    (all-front (IsFrame FromServer limit) (answers v (Before auth) taken) (answers v (after v (Before auth) taken) a.more) (subst (λ (fs : List FrameOf). AllByRecursion (IsFrame FromServer limit) fs) whole short)) each eo in
    record { untaken = a.more; more = b.more; all = a.all; frames = b.all; inbox = a.bytes; outbox = b.bytes ∙ append-nil (flat_map spelling b.more) }

told_of : (v : Server) (auth : Auth) (key : StartKeyOf) (given : List (List ℕ)) (got : List FrameOf) (tail lost left : List ℕ) (taken : List Packet) → Took v auth key given got tail lost left taken → IsTold (start_replies v auth key given) got tail
told_of v auth key given got tail lost left taken t =
    let rest : List FrameOf = answers v (after v (Before auth) taken) t.untaken in
    record {
      more = t.more ++ rest;
      lost = lost ++ flat_map spelling rest;
      frames = ap (λ (ps : List Packet). answers v (Before auth) ps) t.all ∙ answers-append v (Before auth) taken t.untaken ∙ ap (λ (fs : List FrameOf). fs ++ rest) t.frames ∙ append_assoc got t.more rest;
      bytes = sym (append_assoc tail lost (flat_map spelling rest)) ∙ ap (λ (b : List ℕ). b ++ flat_map spelling rest) t.outbox ∙ sym (flat_map-append spelling t.more rest);
    }

nothing_told : (replies got : List FrameOf) (received tail : List ℕ) → received ≡ [] → received ≡ flat_map spelling got ++ tail → IsTold replies got tail
nothing_told replies [] received tail n r = record { more = replies; lost = flat_map spelling replies; frames = refl; bytes = ap (λ (b : List ℕ). b ++ flat_map spelling replies) (sym r ∙ n) }
nothing_told replies (f ∷ fs) received tail n r = absurd (let h : [] ≡ flat_map spelling (f ∷ fs) ++ tail = sym n ∙ r in cc)

pub starts-told : StartsAreTold
starts-told limit began now key given unsent received tail got low f n x short each r =
    ⊎_elim
    (λ (t : began.lives ≡ true).
    let p : Passed began x.sent (marks_since began now) received = x.moves.passed f t in
    told_of began.server (auth_of began.stage) key given got tail p.lost (p.left ++ unsent) p.taken
    (took limit began key given x.sent unsent received tail p.left p.lost got p.taken low n x.all x.fits short each r p.lawful p.inbox p.outbox))
    (λ (d : began.lives ≡ false). nothing_told (start_replies began.server (auth_of began.stage) key given) got received tail (x.moves.silent d).1 r)
    (cases_Bool began.lives)

-- ---- all answers are frames

frames_of_opened : (v : Server) (key : StartKeyOf) (r : Result State Cause) → fresh v.catalogue key ≡ r → IsLawfulCatalogue v.catalogue → IsClientKey key → AllByRecursion IsShortReply (opened v r).replies
frames_of_opened v key (Ok s) e c k =
    let w : Welcomes s v.pid v.secret = welcome_is_read v.catalogue key s v.pid v.secret (fresh_is_reached v.catalogue key s c k.lawful e) in
    (record { of_type = refl; size = omega arith }, w.short)
frames_of_opened v key (Err cause) e c k = (record { of_type = refl; size = omega arith }, (start_error_is_short cause, tt))

all-and_none : (fs : List FrameOf) → AllByRecursion IsShortReply fs → AllByRecursion IsShortReply (fs ++ [])
all-and_none fs h = subst (λ (x : List FrameOf). AllByRecursion IsShortReply x) (sym (append-nil fs)) h

frames_of_opens : (v : Server) (key : StartKeyOf) → IsLawfulCatalogue v.catalogue → IsClientKey key → 0 < length key.dbname → AllByRecursion IsShortReply (opens v (start_body key)).replies
frames_of_opens v key c k d = frames_of_opened v key (started_by v.catalogue (start_body key)) (sym (started-of v.catalogue key k d)) c k

all-both : (fs gs : List FrameOf) → AllByRecursion IsShortReply fs → AllByRecursion IsShortReply gs → AllByRecursion IsShortReply (fs ++ gs)
all-both [] gs h k = k
all-both (f ∷ fs) gs h k = (h.0, all-both fs gs h.1 k)

frames_of_told : (told : List Question) → AllByRecursion IsInFrame told → AllByRecursion IsShortReply (map asks told)
frames_of_told [] h = tt
frames_of_told (q ∷ told) h = (h.0, frames_of_told told h.1)

-- a closed server says nothing
closed_says : (v : Server) (ps : List Packet) → answers v Closed ps ≡ []
closed_says v [] = refl
closed_says v (p ∷ ps) = closed_says v ps

abbrev heard_turn : Server → List Question → List ℕ → List Round → Bool → Turn
heard_turn v told start rounds b = if b then goes_on v told start rounds else (record { next = Closed; replies = wrong_password ∷ [] })

-- the replies of a turn, and those to the answers that follow it
abbrev all_said : Server → Turn → List (List ℕ) → List FrameOf
all_said v t given = t.replies ++ answers v t.next (answer_packets given)

module _ (v : Server) (key : StartKeyOf) (told : List Question) (c : IsLawfulCatalogue v.catalogue) (k : IsClientKey key) (d : 0 < length key.dbname) (q : AllByRecursion IsInFrame told) where
  frames_on : (rounds : List Round) (given : List (List ℕ)) → AllByRecursion (λ r. IsInFrame r.question) rounds → AreToRounds given rounds → AllByRecursion IsShortReply (all_said v (goes_on v told (start_body key) rounds) given)
  frames_on [] [] h to = all-and_none (map asks told ++ (opens v (start_body key)).replies) (all-both (map asks told) (opens v (start_body key)).replies (frames_of_told told q) (frames_of_opens v key c k d))
  frames_on [] (a ∷ given) h to = absurd to
  frames_on (r ∷ rs) [] h to = (h.0, tt)
  frames_on (r ∷ rs) (a ∷ given) h to = (h.0, by (is_answer r.answer (answer_message a)) (frames_on rs given h.1 to))
    where
      by : (b : Bool) → AllByRecursion IsShortReply (all_said v (goes_on v told (start_body key) rs) given) → AllByRecursion IsShortReply (all_said v (heard_turn v told (start_body key) rs b) given)
      by true all = all
      by false all = (record { of_type = refl; size = omega arith }, subst (λ (fs : List FrameOf). AllByRecursion IsShortReply fs) (sym (closed_says v (answer_packets given))) tt)

-- where the answers are to questions
pub start_replies-frames : StartRepliesAreFrames
start_replies-frames v auth key given c k d q to = frames_on v key auth.told c k d q.1 auth.rounds given q.0 to

-- ---- a ReadyForQuery came

or_false : (a b : Bool) → (a || b) ≡ false → (a ≡ false) × (b ≡ false)
or_false true b e = absurd (true≢false e)
or_false false b e = (refl, e)

or_later : (a b : Bool) → a ≡ false → (a || b) ≡ true → b ≡ true
or_later true b e h = absurd (true≢false e)
or_later false b e h = h

first_is : (g f : FrameOf) (xs ys : List FrameOf) → g ∷ xs ≡ f ∷ ys → g ≡ f
first_is g f xs ys e = cc

rest_is : (g f : FrameOf) (xs ys : List FrameOf) → g ∷ xs ≡ f ∷ ys → xs ≡ ys
rest_is g f xs ys e = cc

abbrev ready_kind : FrameOf → Bool
ready_kind f = f.kind == READY_FOR_QUERY

no_ready : {A : Type 0} (got more fs : List FrameOf) → has_ready fs ≡ false → got ++ more ≡ fs → has_ready got ≡ true → A
no_ready [] more fs h e r = absurd (true≢false (sym r))
no_ready (g ∷ got) more [] h e r = absurd cc
no_ready (g ∷ got) more (f ∷ fs) h e r =
    let p = or_false (ready_kind f) (has_ready fs) h in
    let k : ready_kind g ≡ false = ap ready_kind (first_is g f (got ++ more) fs e) ∙ p.0 in
    no_ready got more fs p.1 (rest_is g f (got ++ more) fs e) (or_later (ready_kind g) (has_ready got) k r)

none_after : (xs ys : List FrameOf) → xs ++ ys ≡ [] → ys ≡ []
none_after [] ys e = e
none_after (x ∷ xs) ys e = absurd cc

-- a list whose last frame alone is a ReadyForQuery came as a whole
last_ready : (got more fs : List FrameOf) (z : FrameOf) → has_ready fs ≡ false → got ++ more ≡ fs ++ z ∷ [] → has_ready got ≡ true → more ≡ []
last_ready [] more fs z h e r = absurd (true≢false (sym r))
last_ready (g ∷ got) more [] z h e r = none_after got more (rest_is g z (got ++ more) [] e)
last_ready (g ∷ got) more (f ∷ fs) z h e r =
    let p = or_false (ready_kind f) (has_ready fs) h in
    let k : ready_kind g ≡ false = ap ready_kind (first_is g f (got ++ more) (fs ++ z ∷ []) e) ∙ p.0 in
    last_ready got more fs z p.1 (rest_is g f (got ++ more) (fs ++ z ∷ []) e) (or_later (ready_kind g) (has_ready got) k r)

reports_ready : (ps : List Parameter) (vs : List Text) (more : List FrameOf) → has_ready more ≡ false → has_ready (all_reports_from ps vs ++ more) ≡ false
reports_ready [] vs more h = h
reports_ready (p ∷ ps) [] more h = h
reports_ready (p ∷ ps) (v ∷ vs) more h = reports_ready ps vs more h

-- nothing that is told before a session is open is a ReadyForQuery
told_ready : (told : List Question) (more : List FrameOf) → has_ready more ≡ false → has_ready (map asks told ++ more) ≡ false
told_ready [] more h = h
told_ready (q ∷ told) more h = told_ready told more h

-- what opens the session of this start
record OpensAll (r : Result State Cause) (next : Stage) (more : List FrameOf) : Type 0 where
  session : State
  is : r ≡ Ok session
  next_is : next ≡ Open session
  none_more : more ≡ []

opened_ready : (v : Server) (told : List Question) (r : Result State Cause) (got more : List FrameOf) → got ++ more ≡ map asks told ++ (opened v r).replies → has_ready got ≡ true → OpensAll r (opened v r).next more
opened_ready v told (Ok s) got more e h =
    let key : FrameOf = backend_key_data v.pid v.secret in
    let ready : FrameOf = ready_for_query IDLE in
    let front : List FrameOf = let_in ∷ (all_reports s ++ key ∷ []) in
    let parts : let_in ∷ (all_reports s ++ key ∷ ready ∷ []) ≡ front ++ ready ∷ [] = ap (λ (x : List FrameOf). let_in ∷ x) (sym (append_assoc (all_reports s) (key ∷ []) (ready ∷ []))) in
    let whole : map asks told ++ (let_in ∷ (all_reports s ++ key ∷ ready ∷ [])) ≡ (map asks told ++ front) ++ ready ∷ [] = ap (λ (x : List FrameOf). map asks told ++ x) parts ∙ sym (append_assoc (map asks told) front (ready ∷ [])) in
    record { session = s; is = refl; next_is = refl; none_more = last_ready got more (map asks told ++ front) ready (told_ready told front (reports_ready reported_parameters s.reported (key ∷ []) refl)) (e ∙ whole) h }
opened_ready v told (Err c) got more e h = no_ready got more (map asks told ++ (let_in ∷ fatal c ∷ [])) (told_ready told (let_in ∷ fatal c ∷ []) refl) e h

-- ---- the session behind it

record Opened (r : Result State Cause) (stage : Stage) (untaken : List Packet) (more : List FrameOf) : Type 0 where
  session : State
  is : r ≡ Ok session
  stage_is : stage ≡ Open session
  none_left : untaken ≡ []
  none_more : more ≡ []

packet_is : (p q : Packet) (ps qs : List Packet) → p ∷ ps ≡ q ∷ qs → p ≡ q
packet_is p q ps qs e = cc

packets_are : (p q : Packet) (ps qs : List Packet) → p ∷ ps ≡ q ∷ qs → ps ≡ qs
packets_are p q ps qs e = cc

no_packets : {A : Type 0} (p : Packet) (ps qs : List Packet) → [] ≡ (p ∷ ps) ++ qs → A
no_packets p ps qs e = absurd cc

nothing_left : (taken untaken : List Packet) → [] ≡ taken ++ untaken → (taken ≡ []) × (untaken ≡ [])
nothing_left [] untaken e = (refl, sym e)
nothing_left (p ∷ taken) untaken e = absurd cc

abbrev went_on : Server → Turn → List Packet → List FrameOf
went_on v t taken = t.replies ++ answers v t.next taken

module _ (v : Server) (told : List Question) (start : List ℕ) where
  abbrev session_of : Result State Cause
  session_of = started_by v.catalogue start

  -- the packets that were taken behind the StartupMessage, where a ReadyForQuery came
  opened_on : (rounds : List Round) (given : List (List ℕ)) (taken untaken : List Packet) (got more : List FrameOf) → AreToRounds given rounds → answer_packets given ≡ taken ++ untaken
      → went_on v (goes_on v told start rounds) taken ≡ got ++ more → has_ready got ≡ true → Opened session_of (after v (goes_on v told start rounds).next taken) untaken more
  opened_on [] (a ∷ given) taken untaken got more to s e h = absurd to
  opened_on [] [] taken untaken got more to s e h =
      let n = nothing_left taken untaken s in
      let o : OpensAll session_of (opens v start).next more =
      opened_ready v told session_of got more (sym e ∙ ap (λ (ps : List Packet). went_on v (goes_on v told start []) ps) n.0 ∙ append-nil (map asks told ++ (opens v start).replies)) h in
      record { session = o.session; is = o.is; stage_is = ap (after v (opens v start).next) n.0 ∙ o.next_is; none_left = n.1; none_more = o.none_more }
  opened_on (r ∷ rs) given [] untaken got more to s e h = no_ready got more (asks r.question ∷ []) refl (sym e) h
  opened_on (r ∷ rs) [] (p ∷ taken) untaken got more to s e h = no_packets p taken untaken s
  opened_on (r ∷ rs) (a ∷ given) (p ∷ taken) untaken [] more to s e h = absurd (true≢false (sym h))
  opened_on (r ∷ rs) (a ∷ given) (p ∷ taken) untaken (g ∷ got) more to s e h =
      let same : Sends false (answer_message a) ≡ p = packet_is (Sends false (answer_message a)) p (answer_packets given) (taken ++ untaken) s in
      let rest : answer_packets given ≡ taken ++ untaken = packets_are (Sends false (answer_message a)) p (answer_packets given) (taken ++ untaken) s in
      subst (λ (x : Packet). Opened session_of (after v (goes_on v told start (r ∷ rs)).next (x ∷ taken)) untaken more) same
      (by (λ f k. opened_on rs given taken untaken got more to rest f k) (is_answer r.answer (answer_message a))
      (ap (λ (x : Packet). went_on v (goes_on v told start (r ∷ rs)) (x ∷ taken)) same ∙ e))
    where
      by : (went_on v (goes_on v told start rs) taken ≡ got ++ more → has_ready got ≡ true → Opened session_of (after v (goes_on v told start rs).next taken) untaken more) → (b : Bool)
          → asks r.question ∷ went_on v (heard_turn v told start rs b) taken ≡ (g ∷ got) ++ more → Opened session_of (after v (heard_turn v told start rs b).next taken) untaken more
      by go true f =
          let k : ready_kind g ≡ false = ap ready_kind (sym (first_is (asks r.question) g (went_on v (goes_on v told start rs) taken) (got ++ more) f)) in
          go (rest_is (asks r.question) g (went_on v (goes_on v told start rs) taken) (got ++ more) f) (or_later (ready_kind g) (has_ready got) k h)
      by go false f =
          let k : ready_kind g ≡ false = ap ready_kind (sym (first_is (asks r.question) g (wrong_password ∷ answers v Closed taken) (got ++ more) f)) in
          no_ready got more (wrong_password ∷ []) refl
          (sym (rest_is (asks r.question) g (wrong_password ∷ answers v Closed taken) (got ++ more) f) ∙ ap (λ (fs : List FrameOf). wrong_password ∷ fs) (closed_says v taken))
          (or_later (ready_kind g) (has_ready got) k h)

opened_by : (v : Server) (auth : Auth) (key : StartKeyOf) (given : List (List ℕ)) (taken untaken : List Packet) (got more : List FrameOf) → AreToQuestions given auth → start_packets key given ≡ taken ++ untaken
    → answers v (Before auth) taken ≡ got ++ more → has_ready got ≡ true → Opened (started_by v.catalogue (start_body key)) (after v (Before auth) taken) untaken more
opened_by v auth key given [] untaken got more to s e h = no_ready got more [] refl (sym e) h
opened_by v auth key given (p ∷ taken) untaken got more to s e h =
    let same : Starts (start_body key) ≡ p = packet_is (Starts (start_body key)) p (answer_packets given) (taken ++ untaken) s in
    let rest : answer_packets given ≡ taken ++ untaken = packets_are (Starts (start_body key)) p (answer_packets given) (taken ++ untaken) s in
    subst (λ (x : Packet). Opened (started_by v.catalogue (start_body key)) (after v (Before auth) (x ∷ taken)) untaken more) same
    (opened_on v auth.told (start_body key) auth.rounds given taken untaken got more to rest (ap (λ (x : Packet). answers v (Before auth) (x ∷ taken)) same ∙ e) h)

same_session : (r : Result State Cause) (s t : State) → r ≡ Ok s → r ≡ Ok t → s ≡ t
same_session r s t e d = cc

some_bytes : {A : Type 0} (got : List FrameOf) → flat_map spelling got ≡ [] → has_ready got ≡ true → A
some_bytes [] e h = absurd (true≢false (sym h))
some_bytes (f ∷ fs) e h = absurd cc

-- what lives now has taken all, and has nothing more to say
idle_now : (limit : ℕ) (began now : Standing) (key : StartKeyOf) (given : List (List ℕ)) (sent : List ℕ) (got : List FrameOf) → limit < 2 ^ 32 → IsNew began
    → sent ++ [] ≡ packets_bytes (start_packets key given) → AllByRecursion FitsPacket (start_packets key given) → AreToQuestions given (auth_of began.stage)
    → AllByRecursion (IsFrame FromServer limit) (start_replies began.server (auth_of began.stage) key given) → AllByRecursion (IsFrame FromServer limit) got
    → has_ready got ≡ true → (s : State) → started_by began.server.catalogue (start_body key) ≡ Ok s → (marks : List Bool) → Served began sent marks now (flat_map spelling got) → IsIdle now s
idle_now limit began now key given sent got low n al fits to short each h s is marks z =
    let v : Server = began.server in
    let auth : Auth = auth_of began.stage in
    let whole : flat_map spelling got ≡ flat_map spelling got ++ [] = sym (append-nil (flat_map spelling got)) in
    let b : Took v auth key given got [] now.outbox (now.inbox ++ []) z.taken = took limit began key given sent [] (flat_map spelling got) [] now.inbox now.outbox got z.taken low n al fits short each whole z.lawful z.inbox z.outbox in
    let o : Opened (started_by v.catalogue (start_body key)) (after v (Before auth) z.taken) b.untaken b.more = opened_by v auth key given z.taken b.untaken got b.more to b.all b.frames h in
    record {
      is_open = z.stage ∙ ap (λ (t : Stage). after v t z.taken) n.stage ∙ o.stage_is ∙ ap Open (same_session (started_by v.catalogue (start_body key)) o.session s o.is is);
      inbox = sym (append-nil now.inbox) ∙ b.inbox ∙ ap packets_bytes o.none_left;
      outbox = b.outbox ∙ ap (flat_map spelling) o.none_more;
    }

pub started-fresh : StartedIsFresh
started-fresh limit began now key given got low f n k d x short each h =
    let v : Server = began.server in
    let auth : Auth = auth_of began.stage in
    let same : started_by v.catalogue (start_body key) ≡ fresh v.catalogue key = started-of v.catalogue key k d in
    let lived : began.lives ≡ true = ⊎_elim (λ t. t) (λ (dead : began.lives ≡ false). some_bytes got (x.moves.silent dead).1 h) (cases_Bool began.lives) in
    let whole : flat_map spelling got ≡ flat_map spelling got ++ [] = sym (append-nil (flat_map spelling got)) in
    let p : Passed began x.sent (marks_since began now) (flat_map spelling got) = x.moves.passed f lived in
    let a : Took v auth key given got [] p.lost (p.left ++ []) p.taken = took limit began key given x.sent [] (flat_map spelling got) [] p.left p.lost got p.taken low n x.all x.fits short each whole p.lawful p.inbox p.outbox in
    let o : Opened (started_by v.catalogue (start_body key)) (after v (Before auth) p.taken) a.untaken a.more = opened_by v auth key given p.taken a.untaken got a.more (x.to_questions f) a.all a.frames h in
    record {
      session = o.session;
      is_fresh = ap (λ (w : Server). fresh w.catalogue key) x.moves.server ∙ sym same ∙ o.is;
      lawful = subst (λ (w : Server). IsLawfulCatalogue w.catalogue) (sym x.moves.server) n.lawful;
      lawful_key = k.lawful;
      idle = λ lives. idle_now limit began now key given x.sent got low n x.all x.fits (x.to_questions f) short each h o.session o.is (marks_since began now) (x.moves.served f lives);
    }
