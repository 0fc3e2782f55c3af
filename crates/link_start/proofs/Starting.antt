-- A start under way: its moves, and what its server's answer says.
use Rattle.std.proofs.Common.{◌≡◌, ◌≢◌, inl, inr, ⊎_elim, ℕ, suc, ◌+◌, ◌<◌, ◌^◌, ◌≤◌, Bool, true, false, List, [], ◌∷◌, ◌++◌, length, refl, sym, ap, ◌∙◌, append_assoc, append-nil, arith, length-append, subst, Result, Ok, Err, Option, Some, None}
use Rattle.std.specs.Prelude.{if◌then◌else◌, IfErr}
use Rattle.std.specs.Int.{w32, to_be_bytes}
use Rattle.std.specs.Borrow.{Bor}
use Rattle.std.specs.Result.{IsErrAnd}
use Rattle.std.specs.List.{flat_map, AllByRecursion}
use Rattle.std.proofs.lemmas.Bool.{true≢false}
use Rattle.std.proofs.lemmas.Grind.{flat_map-append}
use Rattle.std.proofs.lemmas.Option.{same_Some}
use Rattle.frame_view.specs.declared.Side.TheVariants.{Server as FromServer}
use Rattle.frame_view.specs.Frames.{AreBytes, Cut, FrameOf, Front, AFrame, Lacks, Faulty, Start, Splits, first_spelling, front, frames, spelling}
use Rattle.frame_view.proofs.Splitting.{frames-split, frames-stopped}
use Rattle.message_view.specs.declared.ViewError.{ViewError}
use Rattle.message_view.specs.declared.views.KeyView.{KeyView}
use Rattle.message_view.specs.Bodies.{Text}
use Rattle.session_values.specs.declared.cause.Cause.{Cause}
use Rattle.session_values.specs.State.{State, StartKeyOf, fresh}
use Rattle.credentials.specs.Credentials.{CredentialOf}
use Rattle.param_track.specs.KeptReports.{KeptReport}
use Rattle.link_model.specs.Stages.{Server, Auth, Packet, packet_bytes, packets_bytes}
use Rattle.link_model.specs.Standing.{Standing, Moves}
use Rattle.link_model.specs.Starts.{start_body}
use Rattle.link_model.specs.Links.{IsFresh}
use Rattle.link_model.specs.Dialogues.{IsStarting, AreToQuestions, FitsPacket, IsTold, IsShortReply, answer_message, answer_packets, auth_of, start_error, start_packets, start_replies, start_refusal}
use Rattle.link_model.proofs.Both.{moves_none, moves_got, moves_put}
use Rattle.link_model.proofs.ByName.{start_replies_are_frames, starts_are_told, started_is_fresh}
use Rattle.link_run.specs.Links.{kept_by}
use Rattle.link_run.specs.Dialogues.{TellsKey, keyed_all, reported_all}
use Rattle.link_run.specs.Receipts.{HasStarted, IsClean, by_start}
use Rattle.link_start.specs.declared.start_reply.StartProgress.{StartProgress}
use Rattle.link_start.specs.declared.start_reply.StartProgress.TheVariants.{Nothing, Asked, Proved, LetIn, Ready, Refused, Other}
use Rattle.link_start.specs.declared.start_reply.ServerQuestion.{ServerQuestion}
use Rattle.link_start.specs.declared.start.TheConstants.{MAX_WELCOME}
use Rattle.link_start.specs.declared.start.StartCause.{StartCause}
use Rattle.link_start.specs.declared.start.StartCause.TheVariants.{Lost, Unanswerable, Unexpected, Memory, Turns, Late}
use Rattle.link_start.specs.declared.start.StartCause.TheVariants as causes
use Rattle.bytes.specs.Filled.{Filled}
use Rattle.link_start.specs.Questions.{PutsIf, answer_to, answers_wanted, can_answer}
use Rattle.link_start.specs.StartReply.{bare, before, if_lawful, heard, heard_by, heard_all, heard_cut, error_in}
use Rattle.link_start.specs.Starts.{IsStartable, CanStart, IsLinkKey, StartView, start_view, waits_of, AreOwn, IsStartUnderWay, IsWelcomed, IsDone, IsDoneFrom, IsOwnKey, IsError, IsRefusalOf, IsUnanswerable, IsEndCause, CameAs, IsErrorHeard, IsUnanswerableHeard, IsUnexpectedHeard, IsStartCause, IsWaiting, IsAnsweredBy, IsWaitingStart, HasTried, bytes_left, ReadsOnce, shown}
use Rattle.link_start.proofs.Grammar.{start_answer}
use Rattle.link_start.proofs.Hearing.{no_other, still_refused, ready_is_last, ready_came, first_error, is_error}
use Rattle.link_start.proofs.Asking.{IsNext, IsLocated, located, own_refusal}
use Rattle.link_start.proofs.Keying.{TellsOwnKey}
use Rattle.link_start.proofs.Telling.{OpensReported, RefusedBy, IsHeard, replies_heard, not_faulty}
use Rattle.link_start.proofs.Lengths.{replies_are_short}

-- ---- moves

pub start_begun : (l : Standing) (cred : CredentialOf) (k : StartKeyOf) (n b : ℕ) (u r : List ℕ) → u ≡ first_spelling (Start (start_body k)) → r ≡ [] → 8 + length (start_body k) < 2 ^ 32 → IsStartUnderWay l cred (start_view l k n b 0 u r)
start_begun l cred k n b u r e d h = record {
  given = [];
  starting = record { sent = []; moves = rw d (moves_none l); all = e ∙ sym (append-nil (first_spelling (Start (start_body k)))); fits = (h, tt); to_questions = λ _. tt };
  own = λ _. tt;
  count = refl;
  faults = omega arith;
}

pub start_sent : (began l m : Standing) (cred : CredentialOf) (k : StartKeyOf) (n b a : ℕ) (put u w r : List ℕ) → Moves l put m [] → u ≡ put ++ w → l.faults ≤ m.faults
    → IsStartUnderWay began cred (start_view l k n b a u r) → IsStartUnderWay began cred (start_view m k n b a w r)
start_sent began l m cred k n b a put u w r y e h x =
    let s = x.starting in
    record {
      given = x.given;
      starting = record {
        sent = s.sent ++ put;
        moves = moves_put began l m s.sent put r s.moves y;
        all = append_assoc s.sent put w ∙ ap (λ (t : List ℕ). s.sent ++ t) (sym e) ∙ s.all;
        fits = s.fits;
        to_questions = s.to_questions;
      };
      own = x.own;
      count = x.count;
      faults = omega (arith, x.faults, h);
    }

pub start_got : (began l m : Standing) (cred : CredentialOf) (k : StartKeyOf) (n b a : ℕ) (got u r t : List ℕ) → Moves l [] m got → t ≡ r ++ got → l.faults ≤ m.faults
    → IsStartUnderWay began cred (start_view l k n b a u r) → IsStartUnderWay began cred (start_view m k n b a u t)
start_got began l m cred k n b a got u r t y e h x =
    let s = x.starting in
    record {
      given = x.given;
      starting = record { sent = s.sent; moves = rw e (moves_got began l m s.sent r got s.moves y); all = s.all; fits = s.fits; to_questions = s.to_questions };
      own = x.own;
      count = x.count;
      faults = omega (arith, x.faults, h);
    }

-- one answer more
answers_on : (given : List (List ℕ)) (body : List ℕ) → packets_bytes (answer_packets (given ++ body ∷ [])) ≡ packets_bytes (answer_packets given) ++ spelling (answer_message body)
answers_on [] body = append-nil (spelling (answer_message body))
answers_on (a ∷ given) body =
    ap (λ (t : List ℕ). spelling (answer_message a) ++ t) (answers_on given body) ∙ sym (append_assoc (spelling (answer_message a)) (packets_bytes (answer_packets given)) (spelling (answer_message body)))

fits_more : (given : List (List ℕ)) (body : List ℕ) → AllByRecursion FitsPacket (answer_packets given) → 4 + length body < 2 ^ 32 → AllByRecursion FitsPacket (answer_packets (given ++ body ∷ []))
fits_more [] body h l = (l, tt)
fits_more (a ∷ given) body h l = (h.0, fits_more given body h.1 l)

pub start_answered : (began l : Standing) (cred : CredentialOf) (k : StartKeyOf) (n b a : ℕ) (u w r : List ℕ) (body : List ℕ) → w ≡ u ++ spelling (answer_message body) → 4 + length body < 2 ^ 32
    → (x : IsStartUnderWay began cred (start_view l k n b a u r))
    → (began.follows ≡ true → AreOwn cred k.user (auth_of began.stage) (x.given ++ body ∷ []) × AreToQuestions (x.given ++ body ∷ []) (auth_of began.stage))
    → IsStartUnderWay began cred (start_view l k n b (a + 1) w r)
start_answered began l cred k n b a u w r body e h x own =
    let s = x.starting in
    let first : List ℕ = first_spelling (Start (start_body k)) in
    record {
      given = x.given ++ body ∷ [];
      starting = record {
        sent = s.sent;
        moves = s.moves;
        all = ap (λ (t : List ℕ). s.sent ++ t) e ∙ sym (append_assoc s.sent u (spelling (answer_message body))) ∙ ap (λ (t : List ℕ). t ++ spelling (answer_message body)) s.all
            ∙ append_assoc first (packets_bytes (answer_packets x.given)) (spelling (answer_message body)) ∙ ap (λ (t : List ℕ). first ++ t) (sym (answers_on x.given body));
        fits = (s.fits.0, fits_more x.given body s.fits.1 h);
        to_questions = λ f. (own f).1;
      };
      own = λ f. (own f).0;
      count = ap (λ (m : ℕ). m + 1) x.count ∙ sym (length-append x.given (body ∷ []));
      faults = x.faults;
    }

-- ---- what is read behind the whole frames

if_kept : (h x : StartProgress) (z : Front) → if_lawful h z ≡ x → x ≢ Other → h ≡ x
if_kept h x (AFrame kind body rest) e n = e
if_kept h x (Lacks m) e n = e
if_kept h x (Faulty fault) e n = absurd (n (sym e))

bare_kept : (x : StartProgress) (rest : List ℕ) → bare Ready rest ≡ x → x ≢ Other → Ready ≡ x
bare_kept x [] e n = e
bare_kept x (b ∷ rest) e n = absurd (n (sym e))

-- what the whole frames say, where what stands behind them isn't faulty
before_is : (cred : CredentialOf) (h x : StartProgress) (rest : List ℕ) → before cred h rest ≡ x → x ≢ Other → h ≡ x
before_is cred Nothing x rest e n = if_kept Nothing x (front FromServer 65536 rest) e n
before_is cred (Asked p) x rest e n = by (can_answer cred p) e
  where
    by : (b : Bool) → (if b then if_lawful (Asked p) (front FromServer 65536 rest) else Asked p) ≡ x → Asked p ≡ x
    by true k = if_kept (Asked p) x (front FromServer 65536 rest) k n
    by false k = k
before_is cred Proved x rest e n = if_kept Proved x (front FromServer 65536 rest) e n
before_is cred LetIn x rest e n = if_kept LetIn x (front FromServer 65536 rest) e n
before_is cred Ready x rest e n = bare_kept x rest e n
before_is cred Refused x rest e n = e
before_is cred Other x rest e n = e

-- and nothing stands behind ReadyForQuery
none_after : (cred : CredentialOf) (h : StartProgress) (rest : List ℕ) → h ≡ Ready → before cred h rest ≡ Ready → rest ≡ []
none_after cred h rest r e = by rest (ap (λ (k : StartProgress). before cred k rest) (sym r) ∙ e)
  where
    by : (bs : List ℕ) → bare Ready bs ≡ Ready → bs ≡ []
    by [] k = refl
    by (b ∷ bs) k = absurd (let z : Other ≡ Ready = k in cc)

nothing_in : (a b : List ℕ) → a ++ b ≡ [] → a ≡ []
nothing_in [] b h = refl
nothing_in (x ∷ a) b h = absurd cc

-- ---- what came over an end of any kind

pub came_as : (began : Standing) (cred : CredentialOf) (v : StartView) (Says : List ℕ → Type 0) → IsStartUnderWay began cred v → Says v.received → CameAs began v.end Says
came_as began cred v Says x says = record { sent = x.starting.sent; received = v.received; moves = x.starting.moves; says = says }

-- a whole welcome: its frames say so, and nothing stands behind them
all_heard : (cred : CredentialOf) (v : StartView) → IsWelcomed cred v → heard_all cred Nothing (frames FromServer 65536 v.received).frames ≡ Ready
all_heard cred v w = before_is cred (heard_all cred Nothing (frames FromServer 65536 v.received).frames) Ready (frames FromServer 65536 v.received).rest w.ready (λ z. cc)

whole_frames : (cred : CredentialOf) (v : StartView) → AreBytes v.received → IsWelcomed cred v → v.received ≡ flat_map spelling (frames FromServer 65536 v.received).frames
whole_frames cred v bytes w =
    let got = (frames FromServer 65536 v.received).frames in
    (frames-split FromServer 65536 v.received bytes).whole
    ∙ ap (λ (bs : List ℕ). flat_map spelling got ++ bs) (none_after cred (heard_all cred Nothing got) (frames FromServer 65536 v.received).rest (all_heard cred v w) w.ready)
    ∙ append-nil (flat_map spelling got)

all_sent : (began now : Standing) (key : StartKeyOf) (given : List (List ℕ)) (unsent received : List ℕ) (s : IsStarting began key given unsent now received) → unsent ≡ [] → s.sent ≡ packets_bytes (start_packets key given)
all_sent began now key given unsent received s none = sym (append-nil s.sent) ∙ ap (λ (bs : List ℕ). s.sent ++ bs) (sym none) ∙ s.all

pub has_started : (began : Standing) (cred : CredentialOf) (v : StartView) → CanStart cred v.key.user began → AreBytes v.received → IsStartUnderWay began cred v → IsWelcomed cred v → (key : Option KeyView) (kept : List KeptReport) → TellsKey (frames FromServer 65536 v.received).frames key → reported_all [] (frames FromServer 65536 v.received).frames ≡ Some kept → HasStarted v.key v.end key kept
has_started began cred v can bytes x w key kept keyed reports =
    let s = x.starting in
    record {
      began = began;
      is_new = λ f. (can f).is_new;
      given = x.given;
      replies = (frames FromServer 65536 v.received).frames;
      moves = subst (λ (put : List ℕ). Moves began put v.end (flat_map spelling (frames FromServer 65536 v.received).frames)) (all_sent began v.end v.key x.given v.unsent v.received s w.sent)
          (subst (λ (bs : List ℕ). Moves began s.sent v.end bs) (whole_frames cred v bytes w) s.moves);
      answers = start_answer cred (frames FromServer 65536 v.received).frames (all_heard cred v w);
      keyed = keyed;
      reported = reports;
    }

-- ---- what a server that follows has said

module _ (began : Standing) (cred : CredentialOf) (v : StartView) (c : CanStart cred v.key.user began) (k : IsLinkKey v.key) (x : IsStartUnderWay began cred v) (f : began.follows ≡ true) (bytes : AreBytes v.received) where
  auth : Auth
  auth = auth_of began.stage

  can : IsStartable cred v.key.user began
  can = c f

  to : AreToQuestions x.given auth
  unfolding auth
  to = x.starting.to_questions f

  replies : List FrameOf
  replies = start_replies began.server auth v.key x.given

  got : List FrameOf
  got = (frames FromServer 65536 v.received).frames

  tail : List ℕ
  tail = (frames FromServer 65536 v.received).rest

  split : Splits FromServer 65536 v.received got tail
  unfolding got tail
  split = frames-split FromServer 65536 v.received bytes

  shorts : AllByRecursion IsShortReply replies
  unfolding replies auth
  shorts = start_replies_are_frames began.server auth v.key x.given can.is_new.lawful k.0 k.1 can.in_frame to

  told : IsTold replies got tail
  unfolding replies auth
  told = starts_are_told 65536 began v.end v.key x.given v.unsent v.received tail got (omega arith) f can.is_new x.starting shorts split.each split.whole

  is_heard : IsHeard cred began.server v.key Nothing replies (start_refusal began.server auth v.key x.given)
  unfolding replies auth
  is_heard = replies_heard cred v.key.user began.server auth v.key x.given can.is_new.lawful k can.questions (x.own f)

  lawful : heard_all cred Nothing (got ++ told.more) ≢ Other
  lawful e = is_heard.lawful (ap (heard_all cred Nothing) told.frames ∙ e)

  all-after : {A : Type 0} (P : A → Type 0) (xs ys : List A) → AllByRecursion P (xs ++ ys) → AllByRecursion P ys
  all-after P [] ys h = h
  all-after P (z ∷ xs) ys h = all-after P xs ys h.1

  more_short : AllByRecursion IsShortReply told.more
  more_short = all-after IsShortReply got told.more (subst (AllByRecursion IsShortReply) told.frames shorts)

  lawful_front : (h : StartProgress) (z : Front) → front FromServer 65536 tail ≡ z → h ≢ Other → if_lawful h z ≢ Other
  lawful_front h (AFrame kind body rest) e n o = n o
  lawful_front h (Lacks m) e n o = n o
  lawful_front h (Faulty fault) e n o = not_faulty told.more tail told.lost fault more_short told.bytes e

  none_behind : heard_all cred Nothing got ≡ Ready → tail ≡ []
  none_behind e = nothing_in tail told.lost (told.bytes ∙ ap (flat_map spelling) (ready_is_last cred got told.more lawful e))

  lawful_before : (h : StartProgress) → heard_all cred Nothing got ≡ h → before cred h tail ≢ Other
  lawful_before Nothing e o = lawful_front Nothing (front FromServer 65536 tail) refl (λ z. cc) o
  lawful_before (Asked q) e o = by (can_answer cred q) o
    where
      by : (b : Bool) → (if b then if_lawful (Asked q) (front FromServer 65536 tail) else Asked q) ≡ Other → ⊥
      by true k = lawful_front (Asked q) (front FromServer 65536 tail) refl (λ z. cc) k
      by false k = cc
  lawful_before Proved e o = lawful_front Proved (front FromServer 65536 tail) refl (λ z. cc) o
  lawful_before LetIn e o = lawful_front LetIn (front FromServer 65536 tail) refl (λ z. cc) o
  lawful_before Ready e o = let z : Ready ≡ Other = ap (bare Ready) (sym (none_behind e)) ∙ o in cc
  lawful_before Refused e o = cc
  lawful_before Other e o = no_other cred got told.more lawful e

  pub never_unexpected : heard cred v.received ≢ Other
  unfolding got tail
  never_unexpected e = lawful_before (heard_all cred Nothing got) refl e

  -- what came is a beginning of all that it answers
  answers_more : v.received ++ told.lost ≡ flat_map spelling replies
  unfolding got tail
  answers_more =
      ap (λ (bs : List ℕ). bs ++ told.lost) split.whole ∙ append_assoc (flat_map spelling got) tail told.lost
      ∙ ap (λ (bs : List ℕ). flat_map spelling got ++ bs) told.bytes ∙ sym (flat_map-append spelling got told.more) ∙ ap (flat_map spelling) (sym told.frames)

  pub never_too_long : length v.received ≤ MAX_WELCOME
  unfolding replies auth
  never_too_long = omega (arith, length-append v.received told.lost, ap length answers_more, replies_are_short cred v.key.user began.server auth v.key x.given can.questions (x.own f) shorts)

  -- where the question stands among the server's own
  pub question_is : (q : ServerQuestion) → heard cred v.received ≡ Asked q → IsLocated cred v.key.user Nothing (auth_of began.stage).rounds x.given q
  unfolding got tail replies auth
  question_is q e =
      ⊎_elim (λ (z : Nothing ≡ Asked q). absurd cc) (λ (y : IsLocated cred v.key.user Nothing (auth_of began.stage).rounds x.given q). y)
      (located cred v.key.user began.server auth.told (start_body v.key) Nothing auth.rounds x.given got told.more q tt can.questions (x.own f) (sym told.frames)
      (before_is cred (heard_all cred Nothing got) (Asked q) tail e (λ z. cc)))

  pub refusal_is : heard cred v.received ≡ Refused → IsRefusalOf began cred v.key (error_in (frames FromServer 65536 v.received).frames)
  unfolding got tail auth
  refusal_is e =
      let h : heard_all cred Nothing got ≡ Refused = before_is cred (heard_all cred Nothing got) Refused tail e (λ z. cc) in
      let r : RefusedBy (start_refusal began.server auth v.key x.given) (error_in replies) = is_heard.refused (ap (heard_all cred Nothing) told.frames ∙ still_refused cred got told.more h) in
      record {
        frame = r.frame;
        refusal = own_refusal cred v.key.user (start_error (fresh began.server.catalogue v.key)) Nothing auth.rounds x.given r.frame (x.own f) r.is;
        whole = sym (ap error_in told.frames ∙ first_error cred Nothing got told.more (λ z. cc) h) ∙ r.whole;
      }

  module _ (w : IsWelcomed cred v) where
    ready : heard_all cred Nothing got ≡ Ready
    unfolding got
    ready = all_heard cred v w

    all_came : replies ≡ got
    all_came = told.frames ∙ ap (λ (fs : List FrameOf). got ++ fs) (ready_is_last cred got told.more lawful ready) ∙ append-nil got

    whole : v.received ≡ flat_map spelling got
    unfolding got
    whole = whole_frames cred v bytes w

    opens_reported : OpensReported began.server v.key replies
    opens_reported = is_heard.ready (ap (heard_all cred Nothing) all_came ∙ ready)

    fresh_now : IsFresh v.end v.key
    unfolding replies auth
    fresh_now =
        started_is_fresh 65536 began v.end v.key x.given got (omega arith) f can.is_new k.0 k.1
        (subst (λ (bs : List ℕ). IsStarting began v.key x.given [] v.end bs) whole (subst (λ (u : List ℕ). IsStarting began v.key x.given u v.end v.received) w.sent x.starting))
        shorts split.each (ready_came cred Nothing got (λ z. cc) ready)

    ok_or : State → Result State Cause → State
    ok_or other (Ok s) = s
    ok_or other (Err cause) = other

    same_session : opens_reported.session ≡ fresh_now.session
    unfolding ok_or
    same_session = ap (ok_or opens_reported.session) (sym opens_reported.is_fresh ∙ ap (λ (server : Server). fresh server.catalogue v.key) (sym x.starting.moves.server) ∙ fresh_now.is_fresh)

    reports_are : reported_all [] (frames FromServer 65536 v.received).frames ≡ Some (kept_by fresh_now.session.reported fresh_now.session.reported)
    unfolding got
    reports_are = ap (reported_all []) (sym all_came) ∙ opens_reported.reported ∙ ap (λ (s : State). Some (kept_by s.reported s.reported)) same_session

    key_is : TellsOwnKey began.server (frames FromServer 65536 v.received).frames
    unfolding got
    key_is = subst (TellsOwnKey began.server) all_came opens_reported.keyed

pub started_clean : (v : StartView) → IsDone v → (key : Option KeyView) (kept : List KeptReport) → AreBytes v.received → TellsKey (frames FromServer 65536 v.received).frames key → reported_all [] (frames FromServer 65536 v.received).frames ≡ Some kept → IsClean v.end v.key key kept
started_clean v (began, (cred, d)) key kept bytes k e = record {
  came = by_start (has_started began cred v d.can_start bytes d.under_way d.welcomed key kept k e);
  fresh = λ f.
      let follows : began.follows ≡ true = sym d.under_way.starting.moves.follows ∙ f in
      record {
        stands = fresh_now began cred v d.can_start d.key d.under_way follows bytes d.welcomed;
        kept = same_Some kept _ (sym e ∙ reports_are began cred v d.can_start d.key d.under_way follows bytes d.welcomed);
      };
}

never_unreported : (began : Standing) (cred : CredentialOf) (v : StartView) → IsDoneFrom began cred v → began.follows ≡ true → AreBytes v.received → reported_all [] (frames FromServer 65536 v.received).frames ≢ None
never_unreported began cred v d f bytes e = let z : Some _ ≡ None = sym (reports_are began cred v d.can_start d.key d.under_way f bytes d.welcomed) ∙ e in cc

never_unkeyed : (began : Standing) (cred : CredentialOf) (v : StartView) (fault : ViewError) → IsDoneFrom began cred v → began.follows ≡ true → AreBytes v.received → keyed_all None (frames FromServer 65536 v.received).frames ≢ Err fault
never_unkeyed began cred v fault d f bytes e =
    let y = key_is began cred v d.can_start d.key d.under_way f bytes d.welcomed in
    let z : Ok y.key ≡ Err fault = sym y.told ∙ e in
    cc

-- a whole welcome with a report that can't be kept, or a key that can't be read
pub unreported_cause : (began : Standing) (cred : CredentialOf) (v : StartView) → IsDoneFrom began cred v → AreBytes v.received → reported_all [] (frames FromServer 65536 v.received).frames ≡ None → IsStartCause began v.end cred v.key Unexpected
unreported_cause began cred v d bytes e = (came_as began cred v (IsUnexpectedHeard cred) d.under_way (inr (inl (d.welcomed.ready, inl e))), λ f. never_unreported began cred v d f bytes e)

fault_in : (r : Result (Option KeyView) ViewError) → ((key : Option KeyView) → r ≡ Ok key → ⊥) → (fault : ViewError) × (r ≡ Err fault)
fault_in (Ok key) n = absurd (n key refl)
fault_in (Err fault) n = (fault, refl)

pub unkeyed_cause : (began : Standing) (cred : CredentialOf) (v : StartView) (r : Result (Option KeyView) ViewError) → IsDoneFrom began cred v → AreBytes v.received → ((key : Option KeyView) → r ≡ Ok key → ⊥)
    → r ≡ keyed_all None (frames FromServer 65536 v.received).frames → IsStartCause began v.end cred v.key Unexpected
unkeyed_cause began cred v r d bytes n e =
    let y = fault_in r n in
    (came_as began cred v (IsUnexpectedHeard cred) d.under_way (inr (inl (d.welcomed.ready, inr (y.0, sym e ∙ y.1)))), λ f. never_unkeyed began cred v y.0 d f bytes (sym e ∙ y.1))

some_key : (k l : Option KeyView) (r : Result (Option KeyView) ViewError) → r ≡ Ok k → r ≡ Ok l → k ≡ l
some_key k l r e d = cc

pub own_key : (began : Standing) (cred : CredentialOf) (v : StartView) (key : Option KeyView) → IsDoneFrom began cred v → began.follows ≡ true → AreBytes v.received → TellsKey (frames FromServer 65536 v.received).frames key → IsOwnKey began.server key
own_key began cred v key d f bytes t =
    let y = key_is began cred v d.can_start d.key d.under_way f bytes d.welcomed in
    subst (IsOwnKey began.server) (some_key y.key key _ y.told t) y.own

-- a start of the same key
pub can_at : (began : Standing) (cred : CredentialOf) (k l : StartKeyOf) → l ≡ k → CanStart cred k.user began → CanStart cred l.user began
can_at began cred k l e can = subst (λ (z : StartKeyOf). CanStart cred z.user began) (sym e) can

pub done_from : (began : Standing) (cred : CredentialOf) (key : StartKeyOf) (v w : StartView) → CanStart cred key.user began → IsLinkKey key → v.key ≡ key → w.key ≡ v.key → IsStartUnderWay began cred v
    → (CanStart cred v.key.user began → IsLinkKey v.key → IsStartUnderWay began cred v → IsStartUnderWay began cred w) → IsWelcomed cred w → IsDoneFrom began cred w
done_from began cred key v w can k e same x go welcomed = record {
  can_start = can_at began cred key w.key (same ∙ e) can;
  key = subst IsLinkKey (sym (same ∙ e)) k;
  under_way = go (can_at began cred key v.key e can) (subst IsLinkKey (sym e) k) x;
  welcomed = welcomed;
}

-- ---- why it ends, by what was heard

error_is : (cred : CredentialOf) (received : List ℕ) → heard cred received ≡ Refused → IsError (error_in (frames FromServer 65536 received).frames)
error_is cred received e =
    let got = (frames FromServer 65536 received).frames in
    is_error cred Nothing got (λ z. cc) (before_is cred (heard_all cred Nothing got) Refused (frames FromServer 65536 received).rest e (λ z. cc))

pub refused_cause : (began : Standing) (cred : CredentialOf) (v : StartView) (error : List ℕ) → CanStart cred v.key.user began → IsLinkKey v.key → IsStartUnderWay began cred v → AreBytes v.received → heard cred v.received ≡ Refused
    → error ≡ error_in (frames FromServer 65536 v.received).frames → IsStartCause began v.end cred v.key (causes.Refused error)
refused_cause began cred v error c k x bytes h e = (
  came_as began cred v (IsErrorHeard cred error) x (h, e, subst IsError (sym e) (error_is cred v.received h)),
  λ f. subst (IsRefusalOf began cred v.key) (sym e) (refusal_is began cred v c k x f bytes h),
)

-- an answer behind those that were given, which is the next one where the server follows
pub next_answered : (began : Standing) (cred : CredentialOf) (v : StartView) (q : ServerQuestion) (w body : List ℕ) → CanStart cred v.key.user began → IsLinkKey v.key → IsStartUnderWay began cred v → AreBytes v.received → heard cred v.received ≡ Asked q
    → v.answered + 1 ≡ answers_wanted q → answer_to cred v.key.user q ≡ Some body → w ≡ v.unsent ++ spelling (answer_message body) → 4 + length body < 2 ^ 32
    → IsStartUnderWay began cred (start_view v.end v.key v.number v.started_at (v.answered + 1) w v.received)
next_answered began cred v q w body c k x bytes h one s e l =
    start_answered began v.end cred v.key v.number v.started_at v.answered v.unsent w v.received body e l x
    (λ f. let n = (question_is began cred v c k x f bytes q h).next (omega (arith, one, x.count)) in (n.own body s, n.to body))

-- a server that follows asks no question before the one before it is answered
pub early_answered : (began : Standing) (cred : CredentialOf) (v : StartView) (q : ServerQuestion) (w body : List ℕ) → CanStart cred v.key.user began → IsLinkKey v.key → IsStartUnderWay began cred v → AreBytes v.received → heard cred v.received ≡ Asked q
    → v.answered + 1 < answers_wanted q → w ≡ v.unsent ++ spelling (answer_message body) → 4 + length body < 2 ^ 32
    → IsStartUnderWay began cred (start_view v.end v.key v.number v.started_at (v.answered + 1) w v.received)
early_answered began cred v q w body c k x bytes h early e l =
    start_answered began v.end cred v.key v.number v.started_at v.answered v.unsent w v.received body e l x
    (λ f. absurd (omega (arith, early, x.count, (question_is began cred v c k x f bytes q h).bound)))

-- it takes no more bytes than were left for it
pub left_answered : (v : StartView) (w body : List ℕ) → w ≡ v.unsent ++ spelling (answer_message body) → 4 + length body < 2 ^ 32 → v.answered + 1 ≤ 2
    → bytes_left (start_view v.end v.key v.number v.started_at (v.answered + 1) w v.received) ≤ bytes_left v
left_answered v w body e l two =
    omega (arith, l, two, ap length e, length-append v.unsent (spelling (answer_message body)), length-append (to_be_bytes w32 (4 + length body)) body)

-- what was put, or that there is nothing to put
pub put_so : (b : Bool) (old new : Filled) (o : Option (List ℕ)) → b ≡ true → PutsIf b old new o → (body : List ℕ) × (o ≡ Some body) × (new.items ≡ old.items ++ spelling (answer_message body)) × (4 + length body < 2 ^ 32)
put_so true old new (Some body) e x = (body, refl, x.0, omega (arith, x.1))
put_so true old new None e x = absurd x
put_so false old new o e x = absurd (true≢false (sym e))

pub none_put : (b : Bool) (old new : Filled) (o : Option (List ℕ)) → b ≡ false → PutsIf b old new o → o ≡ None
none_put true old new o e x = absurd (true≢false e)
none_put false old new (Some body) e x = absurd x
none_put false old new None e x = refl

-- the answer that is wanted next has none
pub unanswerable_cause : (began : Standing) (cred : CredentialOf) (v : StartView) (q : ServerQuestion) → CanStart cred v.key.user began → IsLinkKey v.key → (x : IsStartUnderWay began cred v) → AreBytes v.received → heard cred v.received ≡ Asked q → answer_to cred v.key.user q ≡ None
    → v.answered < answers_wanted q → IsStartCause began v.end cred v.key (Unanswerable q)
unanswerable_cause began cred v q c k x bytes h n l = (
  came_as began cred v (IsUnanswerableHeard cred v.key.user q) x (h, n),
  λ f. ((question_is began cred v c k x f bytes q h).next (omega (arith, l, x.count))).lacks n,
)

pub other_cause : (began : Standing) (cred : CredentialOf) (v : StartView) → CanStart cred v.key.user began → IsLinkKey v.key → IsStartUnderWay began cred v → AreBytes v.received → heard cred v.received ≡ Other → IsStartCause began v.end cred v.key Unexpected
other_cause began cred v c k x bytes h = (came_as began cred v (IsUnexpectedHeard cred) x (inl h), λ f. never_unexpected began cred v c k x f bytes h)

-- ---- how long it goes on

still_waits : (h : StartProgress) (A B : ServerQuestion → Type 0) → ((q : ServerQuestion) → A q → B q) → IsWaiting h A → IsWaiting h B
still_waits Nothing A B f w = tt
still_waits (Asked q) A B f w = f q w
still_waits Proved A B f w = tt
still_waits LetIn A B f w = tt
still_waits Ready A B f w = w
still_waits Refused A B f w = w
still_waits Other A B f w = w

pub has_tried : (began : Standing) (cred : CredentialOf) (v : StartView) (turns : ℕ) → IsStartUnderWay began cred v → turns + waits_of began ≤ waits_of v.end → IsWaitingStart cred v → HasTried began cred v.key v.end turns
has_tried began cred v turns x t w = record {
  given = x.given;
  unsent = v.unsent;
  received = v.received;
  starting = x.starting;
  tries = t;
  waits = still_waits (heard cred v.received) (IsAnsweredBy v.answered) (IsAnsweredBy (length x.given)) (λ q l. omega (arith, l, x.count)) w;
}

-- more came than any start's answer has, and more of it is to come
pub long_cause : (began : Standing) (cred : CredentialOf) (v : StartView) → CanStart cred v.key.user began → IsLinkKey v.key → IsStartUnderWay began cred v → AreBytes v.received → MAX_WELCOME < length v.received → IsWaitingStart cred v
    → IsStartCause began v.end cred v.key Unexpected
long_cause began cred v c k x bytes l w = (
  came_as began cred v (IsUnexpectedHeard cred) x (inr (inr (l, still_waits (heard cred v.received) (IsAnsweredBy v.answered) (λ q. Unit {0}) (λ q _. tt) w))),
  λ f. let short = never_too_long began cred v c k x f bytes in omega (arith, l, short),
)

-- before the first byte
pub waits_first : (cred : CredentialOf) (received : List ℕ) → received ≡ [] → IsWaiting (heard cred received) (IsAnsweredBy 0)
waits_first cred received e =
    let none : frames FromServer 65536 [] ≡ record { frames = []; rest = [] } = frames-stopped FromServer 65536 [] tt in
    subst (λ (bs : List ℕ). IsWaiting (heard cred bs) (IsAnsweredBy 0)) (sym e) (subst (λ (cut : Cut). IsWaiting (heard_cut cred cut) (IsAnsweredBy 0)) (sym none) tt)

-- what was heard so far, with the question that is asked answered, if it is one
pub waits_for : (cred : CredentialOf) (v : StartView) (h : StartProgress) → h ≡ heard cred v.received → IsWaiting h (IsAnsweredBy v.answered) → IsWaitingStart cred v
waits_for cred v h e w = subst (λ (p : StartProgress). IsWaiting p (IsAnsweredBy v.answered)) e w

-- the same bytes, heard again
pub waits_on : (cred : CredentialOf) (v w : StartView) → w.received ≡ v.received → w.answered ≡ v.answered → IsWaitingStart cred v → IsWaitingStart cred w
waits_on cred v w r a x = subst (λ (m : ℕ). IsWaiting (heard cred w.received) (IsAnsweredBy m)) (sym a) (subst (λ (bs : List ℕ). IsWaiting (heard cred bs) (IsAnsweredBy v.answered)) (sym r) x)

waits_no_more : (h : StartProgress) (A : ServerQuestion → Type 0) → h ≡ Ready → IsWaiting h A → ⊥
waits_no_more Nothing A e w = cc
waits_no_more (Asked q) A e w = cc
waits_no_more Proved A e w = cc
waits_no_more LetIn A e w = cc
waits_no_more Ready A e w = w
waits_no_more Refused A e w = cc
waits_no_more Other A e w = cc

-- it was waiting, and then all came: so this read came to something
pub read_gave : (cred : CredentialOf) (v w : StartView) → IsWaitingStart cred v → ReadsOnce v w → heard cred w.received ≡ Ready → waits_of w.end ≡ waits_of v.end
read_gave cred v w x (inl same) e = same
read_gave cred v w x (inr same) e = absurd (waits_no_more (heard cred v.received) (IsAnsweredBy v.answered) (ap (heard cred) (sym same.1) ∙ e) x)

-- ---- small moves

pub start_unsent : (began l m : Standing) (cred : CredentialOf) (k : StartKeyOf) (n b a : ℕ) (u r : List ℕ) → Moves l [] m [] → l.faults ≤ m.faults
    → IsStartUnderWay began cred (start_view l k n b a u r) → IsStartUnderWay began cred (start_view m k n b a u r)
start_unsent began l m cred k n b a u r y h x = start_sent began l m cred k n b a [] u u r y refl h x

pub start_heard : (began l m : Standing) (cred : CredentialOf) (k : StartKeyOf) (n b a : ℕ) (u r t : List ℕ) → Moves l [] m [] → t ≡ r → l.faults ≤ m.faults
    → IsStartUnderWay began cred (start_view l k n b a u r) → IsStartUnderWay began cred (start_view m k n b a u t)
start_heard began l m cred k n b a u r t y e h x = start_got began l m cred k n b a [] u r t y (e ∙ sym (append-nil r)) h x

-- ---- why an end is lost

pub end_cause : (began now : Standing) (cred : CredentialOf) (key : StartKeyOf) (v : StartView) (cause : StartCause) → IsStartUnderWay began cred v → IsEndCause v.end now cause → IsStartCause began now cred key cause
end_cause began now cred key v Lost x e = record {
  sent = x.starting.sent;
  received = v.received ++ [];
  moves = moves_got began v.end now x.starting.sent v.received [] x.starting.moves e.0;
  says = ⊎_elim (λ d. inl d) (λ l. inr (omega (arith, l, x.faults))) e.1;
}
end_cause began now cred key v Memory x e = tt
end_cause began now cred key v (causes.Refused error) x e = absurd e
end_cause began now cred key v (Unanswerable question) x e = absurd e
end_cause began now cred key v Unexpected x e = absurd e
end_cause began now cred key v Turns x e = absurd e
end_cause began now cred key v Late x e = absurd e

-- a cause that is handed on
pub handed_on : {A : Type 0} (P : StartCause → Type 0) (r : Result A StartCause) (cause : StartCause) → IsErrAnd r (λ e. e ≡ cause) → P cause → IfErr r P
handed_on P (Ok x) cause e p = tt
handed_on P (Err other) cause e p = subst P (sym e) p

-- the same, of an equal key
pub caused : (began now : Standing) (cred : CredentialOf) (key other : StartKeyOf) (cause : StartCause) → key ≡ other → IsStartCause began now cred key cause → IsStartCause began now cred other cause
caused began now cred key other cause e x = subst (λ (k : StartKeyOf). IsStartCause began now cred k cause) e x
