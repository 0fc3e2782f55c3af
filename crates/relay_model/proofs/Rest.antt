-- What a lease's end says of its link.
use Rattle.std.proofs.Common.{arith, ◌≡◌, ⊎_elim, ℕ, Bool, true, false, List, [], ◌∷◌, ◌++◌, refl, sym, ap, ap₂, ◌∙◌, append-nil, eqb-true, subst}
use Rattle.std.specs.Prelude.{◌==◌, ◌&&◌, Ok}
use Rattle.std.proofs.lemmas.Bool.{and_parts}
use Rattle.std.specs.List.{flat_map}
use Rattle.disposal.specs.declared.Verdict.{Verdict}
use Rattle.disposal.specs.declared.Verdict.TheVariants.{Broken, MidFrame, Unanswered, InBlock, Settled}
use Rattle.disposal.specs.Tallies.{verdict_of}
use Rattle.disposal.specs.Laws.{SettledExactly}
use Rattle.frame_view.specs.Frames.{FrameOf, spelling}
use Rattle.session_values.specs.State.{State, CatalogueOf, fresh}
use Rattle.session_values.specs.Lawful.{IsLawfulCatalogue}
use Rattle.session_values.specs.Step.{run_frames}
use Rattle.session_laws.proofs.ByName.{fresh_is_reached, fresh_is_at_rest}
use Rattle.link_model.specs.Stages as stages
use Rattle.link_model.specs.Stages.{Stage, Before, Asked, Open, Closed, Packet, packets_bytes, packets_marks, after, answers, MayTakeAll}
use Rattle.link_model.specs.Standing.{Moves, Served, marks_since}
use Rattle.link_model.proofs.Both.{lives_before}
use Rattle.link_model.proofs.InSession.{InSession, in_session}
use Rattle.link_model.specs.Links.{IsFresh, IsIdle, IsResting}
use Rattle.link_run.specs.Links.{IsFreshLink, IsRestingLink, after_frames, kept_by}
use Rattle.link_run.specs.Receipts.{CameClean, HasSettled, IsClean, IsUsed}
use Rattle.link_run.proofs.Receipts.{untouched_is_clean}
use Rattle.link_run.proofs.Reporting.{told-frames}
use Rattle.link_model.proofs.Splits.{SplitsOff, split_whole}
use Rattle.session_run_laws.proofs.ByName.{run_replies_are_frames, run_reports_tell_values}
use Rattle.session_laws.specs.Laws.{Reaches, after_replies}
use Rattle.param_track.specs.KeptReports.{KeptReport}
use Rattle.frame_view.specs.declared.Side.TheVariants.{Server}
use Rattle.frame_view.specs.declared.frames.TheConstants.{MAX_FRAME}
use Rattle.session_run_laws.specs.Settling.{IsAnswered}
use Rattle.link_model.proofs.ByName.{settled_links_rest}
use Rattle.relay_model.proofs.Settling.{Answered, answered_by}
use Rattle.relay_flow.specs.Flows.{is_empty, is_faulty}
use Rattle.relay_model.specs.Leases.{RelayView, Place, IsLease, at_border, relay_verdict}
use Rattle.relay_model.specs.Verdicts.{all_kept, verdict_by}
use Rattle.relay_model.proofs.Flowing.{empty_is}
use Rattle.relay_model.proofs.Exact.{lease_of, under_way}

-- ---- a link to which nothing was sent is fresh still

nothing : (fs : List FrameOf) (left : List ℕ) → [] ≡ flat_map spelling fs ++ left → (fs ≡ []) × (left ≡ [])
nothing [] left e = (refl, sym e)
nothing (f ∷ fs) left e = absurd (cc)

run-none : (cat : CatalogueOf) (s : State) (marks : List Bool) → (run_frames cat s marks []).next ≡ s
unfolding run_frames
run-none cat s marks = refl

replies-none : (cat : CatalogueOf) (s : State) (marks : List Bool) → (run_frames cat s marks []).replies ≡ []
unfolding run_frames
replies-none cat s marks = refl

none_both : (a b : List ℕ) → [] ≡ a ++ b → b ≡ []
none_both [] b e = sym e
none_both (x ∷ a) b e = absurd (cc)

idle_still : (p : Place) (v : RelayView) (x : IsLease p v) (s : State) → Served p.stands x.sent (marks_since p.stands v.link) v.link x.received → IsIdle p.stands s → x.sent ≡ [] → IsIdle v.link s
idle_still p v x s m d e =
    let cat : CatalogueOf = p.stands.server.catalogue in
    let ms : List Bool = packets_marks m.taken in
    let i : InSession p.stands.server s m.taken = in_session p.stands.server s m.taken (subst (λ (t : Stage). MayTakeAll p.stands.server t m.taken) d.is_open m.lawful) in
    let w : [] ≡ flat_map spelling i.frames ++ v.link.inbox = ap₂ (λ (a b : List ℕ). a ++ b) (sym d.inbox) (sym e) ∙ m.inbox ∙ ap (λ (b : List ℕ). b ++ v.link.inbox) i.bytes in
    let z : (i.frames ≡ []) × (v.link.inbox ≡ []) = nothing i.frames v.link.inbox w in
    let o : [] ≡ x.received ++ v.link.outbox =
    sym (ap (flat_map spelling) (replies-none cat s ms)) ∙ ap (λ (fs : List FrameOf). flat_map spelling (run_frames cat s ms fs).replies) (sym z.0)
    ∙ ap (flat_map spelling) (sym i.replies) ∙ ap (λ (t : Stage). flat_map spelling (answers p.stands.server t m.taken)) (sym d.is_open)
    ∙ ap (λ (b : List ℕ). b ++ flat_map spelling (answers p.stands.server p.stands.stage m.taken)) (sym d.outbox) ∙ m.outbox in
    record {
      is_open = m.stage ∙ ap (λ (t : Stage). after p.stands.server t m.taken) d.is_open ∙ i.stage ∙ ap (λ (fs : List FrameOf). Open (run_frames cat s ms fs).next) z.0 ∙ ap Open (run-none cat s ms);
      inbox = z.1;
      outbox = none_both x.received v.link.outbox o;
    }

pub fresh_still : (p : Place) (v : RelayView) (x : IsLease p v) → p.stands.follows ≡ true → x.sent ≡ [] → IsFresh v.link v.key
fresh_still p v x f e =
    let c : IsFresh p.stands v.key = (x.clean.fresh f).stands in
    let cat : CatalogueOf = p.stands.server.catalogue in
    let same : cat ≡ v.link.server.catalogue = ap (λ (y : stages.Server). y.catalogue) (sym x.moves.server) in
    record {
      session = c.session;
      is_fresh = subst (λ (y : CatalogueOf). fresh y v.key ≡ Ok c.session) same c.is_fresh;
      lawful = subst IsLawfulCatalogue same c.lawful;
      lawful_key = c.lawful_key;
      idle = λ n. idle_still p v x c.session (x.moves.served f n) (c.idle (lives_before p.stands v.link x.moves.dead n)) e;
    }

-- of a link from which nothing came no report was kept
none_kept : (p : Place) (v : RelayView) (x : IsLease p v) → x.received ≡ [] → v.told.reports ≡ p.reports
none_kept p v x e = x.tally.keeps ∙ ap (all_kept p.reports) (nothing x.arrived (x.front ++ v.to_client.part) (sym e ∙ x.comes.whole)).0

untouched : (p : Place) (v : RelayView) (x : IsLease p v) → (x.sent ≡ []) × (x.received ≡ []) → Moves p.stands [] v.link []
untouched p v x e = subst (λ (put : List ℕ). Moves p.stands put v.link []) e.0 (subst (λ (got : List ℕ). Moves p.stands x.sent v.link got) e.1 x.moves)

untouched_fresh : (p : Place) (v : RelayView) (x : IsLease p v) → p.stands.follows ≡ true → (x.sent ≡ []) × (x.received ≡ []) → IsFreshLink v.link v.key v.told.reports
unfolding fresh_still
untouched_fresh p v x f e = record { stands = fresh_still p v x f e.0; kept = none_kept p v x e.1 ∙ (x.clean.fresh f).kept }

pub lease_clean : (p : Place) (v : RelayView) → IsLease p v → v.flags.touched ≡ false → IsClean v.link v.key v.server_key v.told.reports
lease_clean p v x e = record {
  came = subst (CameClean v.key v.server_key v.link) (sym (none_kept p v x (x.says.untouched e).1)) (untouched_is_clean v.key v.server_key p.stands v.link p.reports x.clean.came (untouched p v x (x.says.untouched e)));
  fresh = λ f. untouched_fresh p v x (sym x.moves.follows ∙ f) (x.says.untouched e);
}

-- ---- a link that settled is at rest

settled_by : (w : Verdict) (f b : Bool) → verdict_by w f b ≡ Settled → (w ≡ Settled) × (b ≡ true)
settled_by Broken f b e = absurd (cc)
settled_by MidFrame true b e = absurd (cc)
settled_by MidFrame false b e = absurd (cc)
settled_by Unanswered true b e = absurd (cc)
settled_by Unanswered false true e = absurd (cc)
settled_by Unanswered false false e = absurd (cc)
settled_by InBlock true b e = absurd (cc)
settled_by InBlock false true e = absurd (cc)
settled_by InBlock false false e = absurd (cc)
settled_by Settled true b e = absurd (cc)
settled_by Settled false true e = (refl, refl)
settled_by Settled false false e = absurd (cc)

rests_fresh : (p : Place) (v : RelayView) (x : IsLease p v) → p.stands.follows ≡ true → v.link.lives ≡ true → x.sent ≡ [] → IsResting v.link v.key
rests_fresh p v x f n e =
    let z : IsFresh v.link v.key = fresh_still p v x f e in
    let cat : CatalogueOf = v.link.server.catalogue in
    record {
      session = z.session;
      reached = fresh_is_reached cat v.key z.session z.lawful z.lawful_key z.is_fresh;
      rests = fresh_is_at_rest cat v.key z.session z.is_fresh;
      idle = z.idle n;
    }

rests_answered : (p : Place) (v : RelayView) (x : IsLease p v) → p.stands.follows ≡ true → v.link.lives ≡ true → v.to_link.held ≡ [] → x.tail ≡ [] → x.received ≡ flat_map spelling x.arrived → IsAnswered x.forwarded x.arrived → IsResting v.link v.key
unfolding lease_of
rests_answered p v x f n h t r a = settled_links_rest (lease_of p v x) x.arrived (under_way p v x f) f n h t x.comes.came r a

-- ---- the values that such a session reports

state_in : State → Stage → State
state_in d (Open s) = s
state_in d (Before auth) = d
state_in d (Asked start answer rest) = d
state_in d Closed = d

same_state : (s t : State) → Open s ≡ Open t → s ≡ t
unfolding state_in
same_state s t e = ap (state_in s) e

reported_now : (p : Place) (v : RelayView) (x : IsLease p v) (f : p.stands.follows ≡ true) → v.link.lives ≡ true → x.received ≡ flat_map spelling x.arrived → (r : IsResting v.link v.key) → r.session.reported ≡ after_replies (x.clean.fresh f).stands.session.reported x.arrived
reported_now p v x f n w r =
    let c : IsFresh p.stands v.key = (x.clean.fresh f).stands in
    let cat : CatalogueOf = p.stands.server.catalogue in
    let s : State = c.session in
    let m : Served p.stands x.sent (marks_since p.stands v.link) v.link x.received = x.moves.served f n in
    let ms : List Bool = packets_marks m.taken in
    let d : IsIdle p.stands s = c.idle (lives_before p.stands v.link x.moves.dead n) in
    let reached : Reaches cat v.key s = fresh_is_reached cat v.key s c.lawful c.lawful_key c.is_fresh in
    let i : InSession p.stands.server s m.taken = in_session p.stands.server s m.taken (subst (λ (t : Stage). MayTakeAll p.stands.server t m.taken) d.is_open m.lawful) in
    let o : flat_map spelling (run_frames cat s ms i.frames).replies ≡ x.received ++ v.link.outbox =
    sym (ap (λ (t : Stage). flat_map spelling (answers p.stands.server t m.taken)) d.is_open ∙ ap (flat_map spelling) i.replies)
    ∙ ap (λ (b : List ℕ). b ++ flat_map spelling (answers p.stands.server p.stands.stage m.taken)) (sym d.outbox) ∙ m.outbox in
    let q : SplitsOff (run_frames cat s ms i.frames).replies x.arrived [] v.link.outbox = split_whole Server MAX_FRAME (run_frames cat s ms i.frames).replies x.arrived v.link.outbox (omega arith) (run_replies_are_frames cat v.key s ms i.frames reached i.sent) x.comes.came (o ∙ ap (λ (b : List ℕ). b ++ v.link.outbox) w) in
    let none : q.more ≡ [] = (nothing q.more [] (sym r.idle.outbox ∙ q.bytes)).0 in
    let all : (run_frames cat s ms i.frames).replies ≡ x.arrived = q.all ∙ ap (λ (fs : List FrameOf). x.arrived ++ fs) none ∙ append-nil x.arrived in
    let now : r.session ≡ (run_frames cat s ms i.frames).next = same_state r.session (run_frames cat s ms i.frames).next (sym r.idle.is_open ∙ m.stage ∙ ap (λ (t : Stage). after p.stands.server t m.taken) d.is_open ∙ i.stage) in
    ap (λ (t : State). t.reported) now ∙ run_reports_tell_values cat v.key s ms i.frames reached i.sent ∙ ap (after_replies s.reported) all

kept_now : (p : Place) (v : RelayView) (x : IsLease p v) (f : p.stands.follows ≡ true) → v.link.lives ≡ true → x.received ≡ flat_map spelling x.arrived → v.told.reports ≡ after_frames p.reports x.arrived → IsResting v.link v.key → IsRestingLink v.link v.key v.told.reports
kept_now p v x f n w k r =
    let c : IsFresh p.stands v.key = (x.clean.fresh f).stands in
    let same : p.stands.server.catalogue ≡ v.link.server.catalogue = ap (λ (y : stages.Server). y.catalogue) (sym x.moves.server) in
    let s : State = c.session in
    record {
      stands = r;
      origin = s;
      is_fresh = subst (λ (y : CatalogueOf). fresh y v.key ≡ Ok s) same c.is_fresh;
      kept = k ∙ ap (λ (ks : List KeptReport). after_frames ks x.arrived) (x.clean.fresh f).kept ∙ told-frames s.reported s.reported x.arrived ∙ ap (kept_by s.reported) (sym (reported_now p v x f n w r));
    }

-- ---- what a settled lease was

-- all that went over the link were whole frames, each way
record IsWhole (p : Place) (v : RelayView) (x : IsLease p v) : Type 0 where
  held : v.to_link.held ≡ []
  tail : x.tail ≡ []
  sent : x.sent ≡ flat_map spelling x.forwarded
  received : x.received ≡ flat_map spelling x.arrived

whole_at : (p : Place) (v : RelayView) (x : IsLease p v) → at_border v ≡ true → IsWhole p v x
whole_at p v x e =
    let b = and_parts (is_empty v.to_link.held && (v.to_link.rest == 0)) (is_empty v.to_client.part && (v.to_client.rest == 0)) e in
    let bl = and_parts (is_empty v.to_link.held) (v.to_link.rest == 0) b.0 in
    let bc = and_parts (is_empty v.to_client.part) (v.to_client.rest == 0) b.1 in
    let h : v.to_link.held ≡ [] = empty_is v.to_link.held bl.0 in
    let t : x.tail ≡ [] = x.goes.opens.border (eqb-true v.to_link.rest 0 bl.1) in
    let f : x.front ≡ [] = x.comes.opens.border (eqb-true v.to_client.rest 0 bc.1) in
    record {
      held = h;
      tail = t;
      sent = sym (append-nil x.sent) ∙ ap (λ (a : List ℕ). x.sent ++ a) (sym h) ∙ x.goes.on_way ∙ ap (λ (a : List ℕ). flat_map spelling x.forwarded ++ a) t ∙ append-nil (flat_map spelling x.forwarded);
      received = x.comes.whole ∙ ap₂ (λ (a c : List ℕ). flat_map spelling x.arrived ++ (a ++ c)) f (empty_is v.to_client.part bc.0) ∙ append-nil (flat_map spelling x.arrived);
    }

has_settled : (p : Place) (v : RelayView) (x : IsLease p v) → IsWhole p v x → Answered p.reports v.told x.forwarded x.arrived → HasSettled p.stands p.reports v.link v.told.reports
has_settled p v x w a = record {
  sent = x.forwarded;
  received = x.arrived;
  moves = subst (λ (put : List ℕ). Moves p.stands put v.link (flat_map spelling x.arrived)) w.sent (subst (λ (got : List ℕ). Moves p.stands x.sent v.link got) w.received x.moves);
  answered = a.answers;
  told = a.keeps;
}

rests : (p : Place) (v : RelayView) (x : IsLease p v) → IsWhole p v x → Answered p.reports v.told x.forwarded x.arrived → p.stands.follows ≡ true → v.link.lives ≡ true → IsRestingLink v.link v.key v.told.reports
rests p v x w a f n = kept_now p v x f n w.received a.keeps (⊎_elim
    (λ none. rests_fresh p v x f n (w.sent ∙ ap (flat_map spelling) none))
    (λ all. rests_answered p v x f n w.held w.tail w.received all)
    a.answers)

pub lease_used : (p : Place) (v : RelayView) → SettledExactly → IsLease p v → relay_verdict v ≡ Settled → IsUsed v.link v.key v.server_key v.told.reports
lease_used p v law x e =
    let q = settled_by (verdict_of v.told.tally) (is_faulty v.to_client.ends) (at_border v) e in
    let w : IsWhole p v x = whole_at p v x q.1 in
    let a : Answered p.reports v.told x.forwarded x.arrived = answered_by p.reports v.told x.forwarded x.arrived law x.tally q.0 in
    record {
      came = record { clean = p.stands; kept = p.reports; came = x.clean.came; lease = has_settled p v x w a };
      rests = λ f n. rests p v x w a (sym x.moves.follows ∙ f) n;
    }
