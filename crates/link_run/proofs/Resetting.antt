-- A reset's moves, and what its answer says of the session behind it.
use Rattle.std.proofs.Common.{◌≡◌, ◌⊎◌, inl, inr, ◌<◌, length-append, length-take-le, ⊎_elim, ℕ, ◌+◌, ◌-◌, ◌≤◌, Bool, true, false, List, [], ◌∷◌, ◌++◌, take, drop, length, refl, sym, ap, ap₂, ◌∙◌, append_assoc, append-nil, take-append-drop, drop-drop, arith, take_all, length-drop, subst, Result, Ok, Err, Option}
use Rattle.std.proofs.lemmas.Bool.{cases_Bool, true≢false}
use Rattle.std.specs.List.{flat_map, AllByRecursion}
use Rattle.frame_view.specs.declared.Side.TheVariants.{Client, Server}
use Rattle.frame_view.specs.declared.frames.TheConstants.{MAX_FRAME}
use Rattle.frame_view.specs.Frames.{AreBytes, FrameOf, IsFrame, Cut, cut_after, front, frames, spelling}
use Rattle.frame_view.proofs.Splitting.{frames-split}
use Rattle.message_view.specs.declared.views.KeyView.{KeyView}
use Rattle.start_keys.specs.StartPairs.{Text}
use Rattle.session_values.specs.Parameters.{reported_parameters}
use Rattle.session_values.specs.declared.cause.Cause.{Cause}
use Rattle.session_values.specs.Lawful.{IsLawfulCatalogue, IsLawfulKey}
use Rattle.session_values.specs.State.{State, CatalogueOf, StartKeyOf, Answer, failed, fresh, ready}
use Rattle.session_values.specs.Step.{saved, step, first_mark, run_frames}
use Rattle.session_run_laws.specs.Laws.{IsSent, IsAtRest, HasKey, IsReportIf, Reaches, begins, steps, discard_all, after_replies}
use Rattle.session_run_laws.proofs.SessionsByName.{discard_all_gives_fresh, struck_discard_all_is_refused, reached_has_key, statuses_are_reports, welcome_is_read}
use Rattle.session_run_laws.specs.Settling.{IsQuiet}
use Rattle.session_run_laws.proofs.ByName.{run_replies_are_frames, run_reports_tell_values, settled_is_quiet}
use Rattle.param_track.specs.KeptReports.{KeptReport, is_at_start}
use Rattle.server_end.specs.Stages.{Server as TheServer, Stage, Open, Packet, packets_bytes, packets_marks, MayTakeAll, answers, after}
use Rattle.server_end.specs.Standing.{Standing, Served, Passed, Moves, marks_since}
use Rattle.server_end.specs.Links.{IsIdle, IsFresh, IsResting}
use Rattle.server_end.proofs.Both.{moves_none, moves_got, moves_put}
use Rattle.server_end.proofs.InSession.{InSession, in_session}
use Rattle.server_end.proofs.Splits.{SplitsOff, split_whole}
use Rattle.server_end.specs.declared.Moved.{Moved}
use Rattle.server_end.specs.declared.Moved.TheVariants.{Count, NotNow, Ended, Fault}
use Rattle.server_end.specs.Moves.{faults_in, moved, waits_in, IsWithin}
use Rattle.link_run.specs.declared.reset.ResetError.{ResetError}
use Rattle.link_run.specs.declared.reset.ResetError.TheVariants.{Lost, Unexpected, Changed, Memory, Turns}
use Rattle.link_run.specs.declared.reply.Answered.{Answered}
use Rattle.link_run.specs.declared.reply.Answered.TheVariants.{Nothing, Tag, All}
use Rattle.link_run.specs.declared.reply.TheConstants.{MAX_REPLY}
use Rattle.link_run.specs.Links.{kept_by, after_frames, IsFreshLink, IsRestingLink}
use Rattle.link_run.specs.Receipts.{by_reset, IsClean, IsUsed}
use Rattle.link_run.specs.Dialogues.{answered_by_all, IsResetAnswer, are_known, IsResetDialogue}
use Rattle.link_run.specs.Resets.{answer_in, at_rest, ResetView, reset_view, IsResetFrom, IsReset, IsAnsweredReset, IsEndOver, HasHeard, IsOther, IsUnexpected, IsChanged, IsUnfinished, FailsBy, FailsAtEnd, IsDisturbed, IsPacedToEnd, ReadsOnce, MoveFailsBy, is_over, reads}
use Rattle.link_run.proofs.Answering.{asked, is_answered, not_other, some_answer}
use Rattle.link_run.proofs.Knowing.{at_start_again, known_frames}
use Rattle.link_run.proofs.Reporting.{told-frames}

-- ---- moves

pub reset_begun : (l : Standing) (k : StartKeyOf) (n b : ℕ) (sk : Option KeyView) (ks : List KeptReport) (r : List ℕ) → r ≡ [] → IsUsed l k sk ks → IsResetFrom l (reset_view l k n b sk ks (spelling discard_all) r)
reset_begun l k n b sk ks r e u = record { sent = []; used = u; moves = rw e (moves_none l); all = refl; faults = omega arith }

pub reset_sent : (start l m : Standing) (k : StartKeyOf) (n b : ℕ) (sk : Option KeyView) (ks : List KeptReport) (put u w r : List ℕ) → Moves l put m [] → l.faults ≤ m.faults → u ≡ put ++ w
    → IsResetFrom start (reset_view l k n b sk ks u r) → IsResetFrom start (reset_view m k n b sk ks w r)
reset_sent start l m k n b sk ks put u w r y f e x = record {
  sent = x.sent ++ put;
  used = x.used;
  moves = moves_put start l m x.sent put r x.moves y;
  all = append_assoc x.sent put w ∙ ap (λ (t : List ℕ). x.sent ++ t) (sym e) ∙ x.all;
  faults = (let a = x.faults in omega (arith, a, f));
}

pub reset_got : (start l m : Standing) (k : StartKeyOf) (n b : ℕ) (sk : Option KeyView) (ks : List KeptReport) (got u r s : List ℕ) → Moves l [] m got → l.faults ≤ m.faults → s ≡ r ++ got
    → IsResetFrom start (reset_view l k n b sk ks u r) → IsResetFrom start (reset_view m k n b sk ks u s)
reset_got start l m k n b sk ks got u r s y f e x = record {
  sent = x.sent;
  used = x.used;
  moves = rw e (moves_got start l m x.sent r got x.moves y);
  all = x.all;
  faults = (let a = x.faults in omega (arith, a, f));
}

-- a call that the end ended or faulted by
pub over_now : (old new : Standing) (m : Moved) → new.faults ≡ old.faults + faults_in m → (m ≡ Ended → new.lives ≡ false) → is_over m ≡ true → IsEndOver old new
over_now old new (Count n) e d o = absurd (true≢false (sym o))
over_now old new NotNow e d o = absurd (true≢false (sym o))
over_now old new Ended e d o = inl (d refl)
over_now old new Fault e d o = inr (omega (arith, e))

-- any other read gave a byte, or came to nothing at that time
pub read_on : (old new : Standing) (m : Moved) (into r s : List ℕ) (size : ℕ) → IsWithin m size → length into ≡ size → new.read_waits ≡ old.read_waits + waits_in m → s ≡ r ++ moved m into → is_over m ≡ false → old.read_waits + length r < new.read_waits + length s
read_on old new (Count n) into r s size i b e d o = let l = i.0 in let h = i.1 in let k = length-append r (take n into) in let j = length-take-le n into (omega (arith, b, h)) in let z = ap length d in omega (arith, e, k, j, z, l)
read_on old new NotNow into r s size i b e d o = let k = length-append r [] in let z = ap length d in omega (arith, e, k, z)
read_on old new Ended into r s size i b e d o = absurd (true≢false o)
read_on old new Fault into r s size i b e d o = absurd (true≢false o)

-- a move's fault is the reset's
pub fails_by : (kept : List KeptReport) (start old now : Standing) (turns : ℕ) (cause : ResetError) → start.faults ≤ old.faults → MoveFailsBy old now cause → FailsBy kept start now turns cause
fails_by kept start old now turns Lost l f = ⊎_elim (λ d. inl d) (λ n. inr (omega (arith, l, n))) f
fails_by kept start old now turns Unexpected l f = absurd f
fails_by kept start old now turns Changed l f = absurd f
fails_by kept start old now turns Memory l f = tt
fails_by kept start old now turns Turns l f = absurd f

-- what was sent and what came says it
heard_now : (start : Standing) (v : ResetView) (now : Standing) (Says : List ℕ → List ℕ → Type 0) → IsResetFrom start v → now ≡ v.link → Says v.unsent v.received → HasHeard start now Says
heard_now start v now Says x same says = record {
  sent = x.sent;
  unsent = v.unsent;
  received = v.received;
  moves = subst (λ (l : Standing). Moves start x.sent l v.received) (sym same) x.moves;
  all = x.all;
  says = says;
}

-- of no byte
pub reads_nothing : reads (answer_in []) ≡ Nothing
unfolding cut_after
reads_nothing = refl

reads_all : (v : ResetView) → IsAnsweredReset v → reads (answer_in v.received) ≡ All
reads_all v d = ap (λ (b : List ℕ). at_rest (answered_by_all Nothing (answer_in v.received).frames) (front Server MAX_REPLY b)) d.whole ∙ d.answer

-- once the answer is whole
pub ends_by : (start : Standing) (v : ResetView) (now : Standing) (turns : ℕ) (cause : ResetError) → IsResetFrom start v → IsAnsweredReset v → FailsAtEnd v now cause → FailsBy v.reports start now turns cause
ends_by start v now turns cause x d e = ⊎_elim
    (λ u. subst (FailsBy v.reports start now turns) (sym u.0) (heard_now start v now (IsUnexpected v.reports) x e.stands (inr (reads_all v d, u.1)), λ f. absurd (e.unfollowed (x.moves.follows ∙ f))))
    (λ w. subst (FailsBy v.reports start now turns) (sym w.0) (heard_now start v now (IsChanged v.reports) x e.stands (reads_all v d, w.1), λ f. e.unfollowed (x.moves.follows ∙ f)))
    e.says

-- where another answer came
pub other_by : (start : Standing) (v : ResetView) (now : Standing) (turns : ℕ) → IsResetFrom start v → now ≡ v.link → IsOther v.unsent v.received → IsDisturbed start v.link → FailsBy v.reports start now turns Unexpected
other_by start v now turns x same o d = (heard_now start v now (IsUnexpected v.reports) x same (inl o), subst (λ (l : Standing). IsDisturbed start l) (sym same) d)

-- a read that came to something is the last
pub paced_to_end : (start old now : Standing) (v w : ResetView) (counter then_at now_at : ℕ) → IsUnfinished v.received → IsAnsweredReset w → ReadsOnce v w → v.link.read_waits ≤ start.read_waits + counter → w.link.write_waits ≤ start.write_waits + (counter + 1) → now_at ≡ then_at + (counter + 1)
    → now ≡ w.link → IsPacedToEnd start now then_at now_at
paced_to_end start old now v w counter then_at now_at u d o r wr t same =
    let n : w.link.read_waits ≤ v.link.read_waits = ⊎_elim (λ s. absurd (not_all v w u d s.0)) (λ e. omega (arith, e)) o in
    record {
      writes = (let e = ap (λ (l : Standing). l.write_waits) same in omega (arith, e, wr, t));
      reads = (let e = ap (λ (l : Standing). l.read_waits) same in omega (arith, e, n, r, t));
    }
  where
    all_is : (a : Answered) → a ≡ All → (a ≡ Nothing) ⊎ (a ≡ Tag) → ⊥
    all_is a e (inl n) = let z : All ≡ Nothing = sym e ∙ n in cc
    all_is a e (inr n) = let z : All ≡ Tag = sym e ∙ n in cc

    not_all : (v w : ResetView) → IsUnfinished v.received → IsAnsweredReset w → w.received ≡ v.received → ⊥
    not_all v w u d s = all_is (reads (answer_in v.received)) (ap (λ (b : List ℕ). reads (answer_in b)) (sym s) ∙ reads_all w d) u

-- ---- the session behind it

pub all_client : (fs : List FrameOf) → AllByRecursion IsSent fs → AllByRecursion (IsFrame Client MAX_FRAME) fs
all_client [] h = tt
all_client (f ∷ fs) h = (h.0.whole, all_client fs h.1)

all_longer : (fs : List FrameOf) → AllByRecursion (IsFrame Server MAX_REPLY) fs → AllByRecursion (IsFrame Server MAX_FRAME) fs
all_longer [] h = tt
all_longer (f ∷ fs) h = (record { of_type = h.0.of_type; size = (let s : 4 + length f.body ≤ MAX_REPLY = h.0.size in omega (arith, s)) }, all_longer fs h.1)

discard_run : (cat : CatalogueOf) (s : State) (marks : List Bool) → (run_frames cat s marks asked).next ≡ (step cat s (first_mark marks) discard_all).next
unfolding run_frames
discard_run cat s marks = refl

discard_replied : (cat : CatalogueOf) (s : State) (marks : List Bool) → (run_frames cat s marks asked).replies ≡ (step cat s (first_mark marks) discard_all).replies
unfolding run_frames
discard_replied cat s marks = append-nil (step cat s (first_mark marks) discard_all).replies

-- what answers a reset is no answer to one that a cancel struck
answer_unstruck : (cat : CatalogueOf) (s : State) (b : Bool) (got : List FrameOf) → IsAtRest s → got ≡ (step cat s b discard_all).replies → IsResetAnswer got → b ≡ false
answer_unstruck cat s true got r e d = not_other (ready (failed (saved s))).replies (subst IsResetAnswer (e ∙ struck_discard_all_is_refused cat s r) d)
answer_unstruck cat s false got r e d = refl

-- the fresh session of a link at rest
pub fresh_of : (key : StartKeyOf) (start : Standing) (r : IsResting start key) → HasKey start.server.catalogue key r.session
fresh_of key start r = reached_has_key start.server.catalogue key r.session r.reached

-- Once the whole answer came, the server has taken all and given all, and stands in that session; what came are its replies.
record HasAnswered (key : StartKeyOf) (start : Standing) (r : IsResting start key) (got : List FrameOf) (taken : List Packet) (left lost : List ℕ) : Type 0 where
  stage : after start.server start.stage taken ≡ Open (fresh_of key start r).origin
  none_left : left ≡ []
  none_lost : lost ≡ []
  reported : after_replies r.session.reported got ≡ (fresh_of key start r).origin.reported
  statuses : AllByRecursion IsReportIf got

has_answered : (key : StartKeyOf) (start : Standing) (r : IsResting start key) (got : List FrameOf) (taken : List Packet) (left lost : List ℕ) → AllByRecursion (IsFrame Server MAX_REPLY) got → IsResetAnswer got
    → MayTakeAll start.server start.stage taken → start.inbox ++ spelling discard_all ≡ packets_bytes taken ++ left → start.outbox ++ flat_map spelling (answers start.server start.stage taken) ≡ flat_map spelling got ++ lost
    → HasAnswered key start r got taken left lost
has_answered key start r got taken left lost each d lawful ti to =
    let v : TheServer = start.server in
    let s : State = r.session in
    let ms : List Bool = packets_marks taken in
    let m : Bool = first_mark ms in
    let h = fresh_of key start r in
    let i : InSession v s taken = in_session v s taken (subst (λ (t : Stage). MayTakeAll v t taken) r.idle.is_open lawful) in
    let cat : CatalogueOf = v.catalogue in
    let ei : flat_map spelling asked ≡ flat_map spelling i.frames ++ left = append-nil (spelling discard_all) ∙ ap (λ (q : List ℕ). q ++ spelling discard_all) (sym r.idle.inbox) ∙ ti ∙ ap (λ (q : List ℕ). q ++ left) i.bytes in
    let er : flat_map spelling (answers v start.stage taken) ≡ flat_map spelling (run_frames cat s ms i.frames).replies =
    ap (λ (t : Stage). flat_map spelling (answers v t taken)) r.idle.is_open ∙ ap (flat_map spelling) i.replies in
    let eo : flat_map spelling (run_frames cat s ms i.frames).replies ≡ flat_map spelling got ++ lost = sym er ∙ ap (λ (q : List ℕ). q ++ flat_map spelling (answers v start.stage taken)) (sym r.idle.outbox) ∙ to in
    let a : SplitsOff asked i.frames [] left = split_whole Client MAX_FRAME asked i.frames left (omega arith) (record { of_type = refl; size = omega arith }, tt) (all_client i.frames i.sent) ei in
    let b : SplitsOff (run_frames cat s ms i.frames).replies got [] lost = split_whole Server MAX_FRAME (run_frames cat s ms i.frames).replies got lost (omega arith) (run_replies_are_frames cat key s ms i.frames r.reached i.sent) (all_longer got each) eo in
    let q : IsQuiet cat s ms asked got i.frames a.more b.more = settled_is_quiet cat s ms asked got i.frames a.more b.more (is_answered got d) a.all b.all in
    let sent : AllByRecursion IsSent asked = subst (AllByRecursion IsSent) q.all i.sent in
    let unstruck : m ≡ false = answer_unstruck cat s m got r.rests (q.answers ∙ discard_replied cat s ms) d in
    let next : (run_frames cat s ms asked).next ≡ h.origin = discard_run cat s ms ∙ ap (λ (b : Bool). (step cat s b discard_all).next) unstruck ∙ ap (λ (t : Answer). t.next) (discard_all_gives_fresh cat key s h.origin h h.is_fresh r.rests) in
    record {
      stage = ap (λ (t : Stage). after v t taken) r.idle.is_open ∙ i.stage ∙ ap (λ (t : List FrameOf). Open (run_frames cat s ms t).next) q.all ∙ ap Open next;
      none_left = a.bytes ∙ ap (λ (t : List FrameOf). flat_map spelling t ++ []) q.none_left;
      none_lost = b.bytes ∙ ap (λ (t : List FrameOf). flat_map spelling t ++ []) q.none_more;
      statuses = subst (AllByRecursion IsReportIf) (sym (q.answers ∙ discard_replied cat s ms)) (statuses_are_reports cat key s m discard_all r.reached sent.0);
      reported = ap (after_replies s.reported) q.answers ∙ sym (run_reports_tell_values cat key s ms asked r.reached sent) ∙ ap (λ (t : State). t.reported) next;
    }

-- what a session that is reached began with
reached_lawful : (cat : CatalogueOf) (key : StartKeyOf) (s : State) → Reaches cat key s → IsLawfulCatalogue cat × IsLawfulKey key
reached_lawful cat key _ (begins c k e) = (c, k)
reached_lawful cat key _ (steps {s = t} struck f r h) = reached_lawful cat key t r

renewed : (key : StartKeyOf) (start now : Standing) (r : IsResting start key) → now.server ≡ start.server → (now.lives ≡ true → IsIdle now (fresh_of key start r).origin) → IsFresh now key
renewed key start now r same idle =
    let h = fresh_of key start r in
    let l = reached_lawful start.server.catalogue key r.session r.reached in
    record {
      session = h.origin;
      is_fresh = ap (λ (t : TheServer). fresh t.catalogue key) same ∙ h.is_fresh;
      lawful = subst (λ (t : TheServer). IsLawfulCatalogue t.catalogue) (sym same) l.0;
      lawful_key = l.1;
      idle = idle;
    }

-- ---- a reset that was answered

received_as : (v : ResetView) (d : IsAnsweredReset v) → v.received ≡ flat_map spelling (frames Server MAX_REPLY v.received).frames
received_as v d =
    let s = frames-split Server MAX_REPLY v.received d.bytes in
    s.whole ∙ ap (λ (x : List ℕ). flat_map spelling (frames Server MAX_REPLY v.received).frames ++ x) d.whole ∙ append-nil (flat_map spelling (frames Server MAX_REPLY v.received).frames)

all_sent : (start : Standing) (v : ResetView) (x : IsResetFrom start v) → IsAnsweredReset v → x.sent ≡ spelling discard_all
all_sent start v x d = sym (append-nil x.sent) ∙ (ap (λ (q : List ℕ). x.sent ++ q) (sym d.sent) ∙ x.all)

-- an answer comes from a server that lived when the reset began
lived : (start : Standing) (v : ResetView) (x : IsResetFrom start v) → IsAnsweredReset v → start.lives ≡ true
lived start v x d = ⊎_elim (λ t. t) (λ dead. none (frames Server MAX_REPLY v.received).frames d.answer (sym (x.moves.silent dead).1 ∙ received_as v d)) (cases_Bool start.lives)
  where
    none : {A : Type 0} → (fs : List FrameOf) → IsResetAnswer fs → [] ≡ flat_map spelling fs → A
    none [] a e = some_answer [] a refl
    none (f ∷ fs) a e = absurd cc

-- the two sessions that a key's link began with are one
ok_or : State → Result State Cause → State
ok_or other (Ok s) = s
ok_or other (Err c) = other

same_origin : (cat : CatalogueOf) (key : StartKeyOf) (s t : State) → fresh cat key ≡ Ok s → fresh cat key ≡ Ok t → s ≡ t
unfolding ok_or
same_origin cat key s t e f = ap (ok_or s) (sym e ∙ f)

module _ (start : Standing) (v : ResetView) (x : IsResetFrom start v) (d : IsAnsweredReset v) (f : v.link.follows ≡ true) where
  began : start.follows ≡ true
  began = sym x.moves.follows ∙ f

  rested : IsRestingLink start v.key v.reports
  rested = x.used.rests began (lived start v x d)

  got : List FrameOf
  got = (frames Server MAX_REPLY v.received).frames

  each : AllByRecursion (IsFrame Server MAX_REPLY) got
  unfolding got
  each = (frames-split Server MAX_REPLY v.received d.bytes).each

  answered_as : (taken : List Packet) (left lost : List ℕ) → MayTakeAll start.server start.stage taken → start.inbox ++ x.sent ≡ packets_bytes taken ++ left
      → start.outbox ++ flat_map spelling (answers start.server start.stage taken) ≡ v.received ++ lost → HasAnswered v.key start rested.stands got taken left lost
  unfolding got
  answered_as taken left lost lawful ti to =
      has_answered v.key start rested.stands got taken left lost each d.answer lawful (ap (λ (q : List ℕ). start.inbox ++ q) (sym (all_sent start v x d)) ∙ ti) (to ∙ ap (λ (q : List ℕ). q ++ lost) (received_as v d))

  by_passing : (y : Passed start x.sent (marks_since start v.link) v.received) → HasAnswered v.key start rested.stands got y.taken y.left y.lost
  by_passing y = answered_as y.taken y.left y.lost y.lawful y.inbox y.outbox

  by_serving : (y : Served start x.sent (marks_since start v.link) v.link v.received) → HasAnswered v.key start rested.stands got y.taken v.link.inbox v.link.outbox
  by_serving y = answered_as y.taken v.link.inbox v.link.outbox y.lawful y.inbox y.outbox

  idle_now : v.link.lives ≡ true → IsIdle v.link (fresh_of v.key start rested.stands).origin
  idle_now l =
      let y = x.moves.served began l in
      let a = by_serving y in
      record { is_open = y.stage ∙ a.stage; inbox = a.none_left; outbox = a.none_lost }

  kept_now : after_frames v.reports got ≡ kept_by (fresh_of v.key start rested.stands).origin.reported (fresh_of v.key start rested.stands).origin.reported
  kept_now =
      let h = fresh_of v.key start rested.stands in
      let y = x.moves.passed began (lived start v x d) in
      let o : rested.origin ≡ h.origin = same_origin start.server.catalogue v.key rested.origin h.origin rested.is_fresh h.is_fresh in
      ap (λ (ks : List KeptReport). after_frames ks got) rested.kept
      ∙ told-frames rested.origin.reported rested.stands.session.reported got
      ∙ ap₂ (λ (t : State) (values : List Text). kept_by t.reported values) o (by_passing y).reported

  fresh_link : IsFreshLink v.link v.key (after_frames v.reports got)
  unfolding renewed
  fresh_link = record { stands = renewed v.key start v.link rested.stands x.moves.server idle_now; kept = kept_now }

  -- its reports are all known, and bring back the start's values
  knows : (are_known v.reports got ≡ true) × (is_at_start (after_frames v.reports got) ≡ true)
  knows =
      let cat : CatalogueOf = start.server.catalogue in
      let s : State = rested.stands.session in
      let l = reached_lawful cat v.key s rested.stands.reached in
      let y = by_passing (x.moves.passed began (lived start v x d)) in (
        ap (λ (ks : List KeptReport). are_known ks got) rested.kept
            ∙ known_frames rested.origin.reported s.reported got (welcome_is_read cat v.key rested.origin 0 0 (begins l.0 l.1 rested.is_fresh)).nine (welcome_is_read cat v.key s 0 0 rested.stands.reached).nine y.statuses,
        ap is_at_start kept_now ∙ at_start_again reported_parameters (fresh_of v.key start rested.stands).origin.reported,
      )

-- where the end follows nothing is left to fail
pub reset_knows : (v : ResetView) → IsReset v → IsAnsweredReset v → v.link.follows ≡ true
    → (are_known v.reports (frames Server MAX_REPLY v.received).frames ≡ true) × (is_at_start (after_frames v.reports (frames Server MAX_REPLY v.received).frames) ≡ true)
unfolding got
reset_knows v (start, x) d f = knows start v x d f

-- the whole dialogue, whatever stands behind the end
pub reset_dialogue : (start : Standing) (v : ResetView) (now : Standing) (reports : List KeptReport) → now ≡ v.link → reports ≡ after_frames v.reports (answer_in v.received).frames → are_known v.reports (answer_in v.received).frames ≡ true → is_at_start reports ≡ true
    → IsAnsweredReset v → IsResetFrom start v → IsResetDialogue start v.reports now reports
reset_dialogue start v now reports same told known back d x = record {
  answer = (answer_in v.received).frames;
  moves = subst (λ (b : List ℕ). Moves start (spelling discard_all) now b) (received_as v d) (subst (λ (b : List ℕ). Moves start b now v.received) (all_sent start v x d) (subst (λ (l : Standing). Moves start x.sent l v.received) (sym same) x.moves));
  each = (frames-split Server MAX_REPLY v.received d.bytes).each;
  whole = d.answer;
  known = known;
  told = told;
  back = back;
}

-- it makes a used link clean
pub reset_clean : (v : ResetView) (reports : List KeptReport) → IsReset v → IsAnsweredReset v → reports ≡ after_frames v.reports (answer_in v.received).frames → are_known v.reports (answer_in v.received).frames ≡ true → is_at_start reports ≡ true → IsClean v.link v.key v.server_key reports
unfolding got
reset_clean v reports (start, x) d told known back = record {
  came = by_reset x.used.came.came x.used.came.lease (reset_dialogue start v v.link reports refl told known back d x);
  fresh = λ f. subst (IsFreshLink v.link v.key) (sym told) (fresh_link start v x d f);
}

-- ---- what is sent and received

pub split_unsent : (n c : ℕ) (b r : List ℕ) → r ≡ drop n b → drop n b ≡ take c r ++ drop (n + c) b
split_unsent n c b r e = sym (take-append-drop c (drop n b)) ∙ cc (e, drop-drop c n b)

pub none_unsent : (u put : List ℕ) → put ≡ [] → u ≡ put ++ u
none_unsent u put e = rw e refl

pub none_got : (r s got : List ℕ) → got ≡ [] → s ≡ r → s ≡ r ++ got
none_got r s got e h = rw e (h ∙ sym (append-nil r))

pub all_unsent : (n : ℕ) (b : List ℕ) → take (length b - n) (drop n b) ≡ drop n b
all_unsent n b = take_all (length b - n) (drop n b) (omega (arith, length-drop n b))

pub within_unsent : (n c : ℕ) (b r : List ℕ) → r ≡ drop n b → c ≤ length r → n ≤ length b → n + c ≤ length b
within_unsent n c b r e h l = omega (arith, h, ap length e, length-drop n b, l)

-- ---- the whole answer

whole_read : (cut : Cut) → cut.rest ≡ [] → reads cut ≡ answered_by_all Nothing cut.frames
whole_read cut e = ap (λ (b : List ℕ). at_rest (answered_by_all Nothing cut.frames) (front Server MAX_REPLY b)) e

pub answered : (v : ResetView) (bs : List ℕ) (a : Answered) (all : Bool) → bs ≡ v.received → AreBytes bs → a ≡ reads (frames Server MAX_REPLY bs) → (all ≡ true → (frames Server MAX_REPLY bs).rest ≡ []) → a ≡ All → all ≡ true → v.unsent ≡ [] → IsAnsweredReset v
answered v bs a all same b e r d t u = record {
  sent = u;
  bytes = subst AreBytes same b;
  whole = subst (λ (x : List ℕ). (frames Server MAX_REPLY x).rest ≡ []) same (r t);
  answer = subst (λ (x : List ℕ). IsResetAnswer (frames Server MAX_REPLY x).frames) same (sym (whole_read (frames Server MAX_REPLY bs) (r t)) ∙ sym e ∙ d);
}
