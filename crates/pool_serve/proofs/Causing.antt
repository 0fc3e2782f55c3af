-- Why a client is refused.
use Rattle.std.proofs.Common.{◌≡◌, inl, inr, ℕ, ◌+◌, ◌≤◌, Bool, true, false, cond, List, [], ◌++◌, refl, sym, ap, ◌∙◌, arith, append-nil, subst, Option, Some, None}
use Rattle.std.specs.Prelude.{IfSome, ◌==◌}
use Rattle.std.proofs.lemmas.Bool.{true≢false}
use Rattle.frame_view.specs.declared.FrameError.{FrameError}
use Rattle.frame_view.specs.declared.FrameError.TheVariants.{TooShort, TooLong, UnknownType, UnknownCode}
use Rattle.message_view.specs.declared.refusal.Refusal.{Refusal}
use Rattle.message_view.specs.declared.refusal.Refusal.TheVariants.{TooManyClients, UnsupportedProtocol, MalformedClientMessage, UnsupportedParameter, WaitedTooLong, ServerFailed, ServerNotReached, ShuttingDown, OutOfMemory, ClientMessageTooLong, MalformedServerMessage, LastDecision}
use Rattle.relay_flow.specs.declared.flow.Ends.{Ends}
use Rattle.relay_flow.specs.declared.flow.Ends.TheVariants.{Open, Last, Faulty}
use Rattle.relay_flow.specs.Flows.{is_faulty}
use Rattle.link_start.specs.declared.start.StartCause.{StartCause}
use Rattle.link_start.specs.declared.start.StartCause.TheVariants as cause
use Rattle.link_desk.specs.Passes.{PassOf, after_leaving, after_loss, after_refusal, one_arrived, one_other}
use Rattle.link_desk.specs.Refusing.{RefusesArrival, RefusesAsking, RefusesGrant}
use Rattle.link_desk.specs.declared.answers.Gone.{Gone}
use Rattle.link_desk.specs.declared.answers.Gone.TheVariants as gone
use Rattle.relay_model.specs.Leases.{IsLease, Place, RelayView}
use Rattle.relay_model.specs.Answers.{RefusedBy, is_done, is_quiet, judged, quiet_next, refusal_by, refusal_of, refused}
use Rattle.relay_model.specs.declared.Next.{Next}
use Rattle.relay_model.specs.Faults.{IsAtFault}
use Rattle.relay_model.proofs.Faults.{client_fault}
use Rattle.pool_serve.specs.declared.ending.Ending.{Ending}
use Rattle.pool_serve.specs.declared.ending.Ending.TheVariants as ending
use Rattle.pool_serve.specs.declared.final_message.FinalMessage.TheVariants as last
use Rattle.pool_serve.specs.FinalMessages.{final_message_of, final_message_of_start, or_nothing}
use Rattle.pool_serve.specs.Shares as shares
use Rattle.pool_serve.specs.Causes.{HadLink, HadNone, HasFault, HasLost, IsFaulty, IsFaultyWord, IsTurnedAway, Since, AtArrival, AtAsking, AtLease, AtWait, of_wait, HasTrace, WordHasTrace}
use Rattle.pool_serve.specs.Endings.{HasRelayed, IsUnopened, Traces, refusal_at, refusal_told}
use Rattle.link_run.specs.Links.{LinkView}
use Rattle.link_model.specs.Standing.{ClientFacts}
use Rattle.link_desk.specs.Homes.{HomeOf}
use Rattle.login_core.specs.Logins.{LoginView}
use Rattle.pool_serve.specs.Stays.{CameIn}
use Rattle.pool_serve.specs.declared.logged_in.LoggedIn.{LoggedIn}

-- ---- the desk's refusals

by_arrival : (Q : Refusal → Type 0) → Q TooManyClients → Q ShuttingDown → Q LastDecision → (r : Refusal) → RefusesArrival r → Q r
by_arrival Q many shut end TooManyClients h = many
by_arrival Q many shut end ShuttingDown h = shut
by_arrival Q many shut end LastDecision h = end
by_arrival Q many shut end UnsupportedProtocol h = absurd h
by_arrival Q many shut end MalformedClientMessage h = absurd h
by_arrival Q many shut end UnsupportedParameter h = absurd h
by_arrival Q many shut end WaitedTooLong h = absurd h
by_arrival Q many shut end ServerFailed h = absurd h
by_arrival Q many shut end ServerNotReached h = absurd h
by_arrival Q many shut end OutOfMemory h = absurd h
by_arrival Q many shut end ClientMessageTooLong h = absurd h
by_arrival Q many shut end MalformedServerMessage h = absurd h

by_asking : (Q : Refusal → Type 0) → Q ShuttingDown → Q LastDecision → (r : Refusal) → RefusesAsking r → Q r
by_asking Q shut end ShuttingDown h = shut
by_asking Q shut end LastDecision h = end
by_asking Q shut end TooManyClients h = absurd h
by_asking Q shut end UnsupportedProtocol h = absurd h
by_asking Q shut end MalformedClientMessage h = absurd h
by_asking Q shut end UnsupportedParameter h = absurd h
by_asking Q shut end WaitedTooLong h = absurd h
by_asking Q shut end ServerFailed h = absurd h
by_asking Q shut end ServerNotReached h = absurd h
by_asking Q shut end OutOfMemory h = absurd h
by_asking Q shut end ClientMessageTooLong h = absurd h
by_asking Q shut end MalformedServerMessage h = absurd h

by_grant : (Q : Refusal → Type 0) → Q WaitedTooLong → Q ShuttingDown → Q LastDecision → (r : Refusal) → RefusesGrant r → Q r
by_grant Q late shut end WaitedTooLong h = late
by_grant Q late shut end ShuttingDown h = shut
by_grant Q late shut end LastDecision h = end
by_grant Q late shut end TooManyClients h = absurd h
by_grant Q late shut end UnsupportedProtocol h = absurd h
by_grant Q late shut end MalformedClientMessage h = absurd h
by_grant Q late shut end UnsupportedParameter h = absurd h
by_grant Q late shut end ServerFailed h = absurd h
by_grant Q late shut end ServerNotReached h = absurd h
by_grant Q late shut end OutOfMemory h = absurd h
by_grant Q late shut end ClientMessageTooLong h = absurd h
by_grant Q late shut end MalformedServerMessage h = absurd h

turned : (p : PassOf) → IsTurnedAway 1 p (one_other p)
turned p = (refl, λ e. omega arith)

pub arrival_traces : (p q : PassOf) (r : Refusal) → q ≡ after_refusal p r → RefusesArrival r → Traces AtArrival p q (ending.Refused r)
arrival_traces p q r e h =
    subst (λ (x : PassOf). Traces AtArrival p x (ending.Refused r)) (sym e) (by_arrival (λ (s : Refusal). Traces AtArrival p (after_refusal p s) (ending.Refused s)) (refl, (turned p, refl)) (refl, turned p) (refl, refl) r h)

pub asking_traces : (p q : PassOf) (r : Refusal) → q ≡ after_refusal p r → RefusesAsking r → Traces AtAsking p q (ending.Refused r)
asking_traces p q r e h = subst (λ (x : PassOf). Traces AtAsking p x (ending.Refused r)) (sym e) (by_asking (λ (s : Refusal). Traces AtAsking p (after_refusal p s) (ending.Refused s)) (refl, turned p) (refl, refl) r h)

pub grant_traces : (p q : PassOf) (r : Refusal) → q ≡ after_refusal p r → RefusesGrant r → Traces AtWait p q (ending.Refused r)
grant_traces p q r e h = subst (λ (x : PassOf). Traces AtWait p x (ending.Refused r)) (sym e) (by_grant (λ (s : Refusal). Traces AtWait p (after_refusal p s) (ending.Refused s)) (refl, turned p) (refl, turned p) (refl, refl) r h)

-- none of them is for a message of the client's
pub arrival_fault : (rows : _) (word : _) (limit : ℕ) (taken : List ℕ) (r : Refusal) → RefusesArrival r → HasFault rows word limit taken r
arrival_fault rows word limit taken r h = by_arrival (HasFault rows word limit taken) tt tt tt r h

pub asking_fault : (limit : ℕ) (bytes : List ℕ) (r : Refusal) → RefusesAsking r → IsFaultyWord limit bytes (last.Refusal r)
asking_fault limit bytes r h = by_asking (IsFaulty limit bytes) tt tt r h

pub grant_fault : (limit : ℕ) (bytes : List ℕ) (r : Refusal) → RefusesGrant r → IsFaultyWord limit bytes (last.Refusal r)
grant_fault limit bytes r h = by_grant (IsFaulty limit bytes) tt tt tt r h

-- ---- the same over more decisions

-- these moved no link, and make up for the asking that counts
record Spans (a b : Since) (p q before after : PassOf) : Type 0 where
  stays : q.is_broken ≡ true → after.is_broken ≡ true
  was : after.is_broken ≡ false → q.is_broken ≡ false
  none : HasTrace a p q TooManyClients → ⊥
  had : HadLink a p q → HadLink b before after
  granted_before : before.made.granted ≡ p.made.granted
  granted_after : after.made.granted ≡ q.made.granted
  lost_before : before.made.lost ≡ p.made.lost
  lost_after : after.made.lost ≡ q.made.lost
  fewer : before.made.others + of_wait b ≤ p.made.others + of_wait a
  no_more : before.made.others ≤ p.made.others
  no_fewer : q.made.others ≤ after.made.others

module _ (a b : Since) (p q before after : PassOf) (s : Spans a b p q before after) where
  wider_none : HadNone p q → HadNone before after
  wider_none h = s.granted_after ∙ (h ∙ sym s.granted_before)

  wider_lost : HasLost p q → HasLost before after
  wider_lost h = λ e. s.lost_after ∙ (h (s.was e) ∙ ap (λ (k : ℕ). k + 1) (sym s.lost_before))

  wider_refused : IsTurnedAway 1 p q → IsTurnedAway 1 before after
  wider_refused h = (wider_none h.0, λ e. omega (arith, s.no_more, h.1 (s.was e), s.no_fewer))

  wider_waited : IsTurnedAway (of_wait a) p q → IsTurnedAway (of_wait b) before after
  wider_waited h = (wider_none h.0, λ e. omega (arith, s.fewer, h.1 (s.was e), s.no_fewer))

  wider : (r : Refusal) → HasTrace a p q r → HasTrace b before after r
  wider TooManyClients h = absurd (s.none h)
  wider ShuttingDown h = wider_refused h
  wider WaitedTooLong h = wider_waited h
  wider LastDecision h = s.stays h
  wider ServerNotReached h = (s.had h.0, wider_lost h.1)
  wider MalformedClientMessage h = s.had h
  wider ClientMessageTooLong h = s.had h
  wider MalformedServerMessage h = s.had h
  wider ServerFailed h = s.had h
  wider OutOfMemory h = tt
  wider UnsupportedProtocol h = absurd h
  wider UnsupportedParameter h = absurd h

  wider_end : (e : Ending) → Traces a p q e → Traces b before after e
  wider_end ending.Left h = wider_none h
  wider_end (ending.Refused r) h = (wider_none h.0, wider r h.1)
  wider_end ending.Memory h = tt
  wider_end ending.Strange (inl h) = inl (s.stays h)
  wider_end ending.Strange (inr h) = inr (s.had h.0, wider_lost h.1)
  wider_end ending.Last h = s.stays h
  wider_end ending.Unreached h = (s.had h.0, wider_lost h.1)
  wider_end (ending.Unstarted cause) h = (s.had h.0, wider_lost h.1)
  wider_end (ending.Relayed r) h = s.had h
  wider_end (ending.Managed r) h = wider_none h

spans_queue : (p q : PassOf) → Spans AtWait AtAsking (one_other p) q p q
spans_queue p q = record {
  stays = λ e. e;
  was = λ e. e;
  none = λ h. h;
  had = λ h. h;
  granted_before = refl;
  granted_after = refl;
  lost_before = refl;
  lost_after = refl;
  fewer = omega arith;
  no_more = omega arith;
  no_fewer = omega arith;
}

-- behind an asking that was queued
pub queued_traces : (p mid q : PassOf) (e : Ending) → mid ≡ one_other p → Traces AtWait mid q e → Traces AtAsking p q e
queued_traces p mid q e is h = wider_end AtWait AtAsking (one_other p) q p q (spans_queue p q) e (subst (λ (x : PassOf). Traces AtWait x q e) is h)

spans_stay : (p q : PassOf) (g : Gone) → Spans AtAsking AtArrival (one_arrived p) q p (after_leaving q g)
spans_stay p q gone.Done = record {
  stays = λ e. e;
  was = λ e. e;
  none = λ h. h;
  had = λ h. h;
  granted_before = refl;
  granted_after = refl;
  lost_before = refl;
  lost_after = refl;
  fewer = omega arith;
  no_more = omega arith;
  no_fewer = omega arith;
}
spans_stay p q gone.Last = record {
  stays = λ e. refl;
  was = λ e. absurd (true≢false e);
  none = λ h. h;
  had = λ h. h;
  granted_before = refl;
  granted_after = refl;
  lost_before = refl;
  lost_after = refl;
  fewer = omega arith;
  no_more = omega arith;
  no_fewer = omega arith;
}
spans_stay p q gone.Stranger = record {
  stays = λ e. refl;
  was = λ e. absurd (true≢false e);
  none = λ h. h;
  had = λ h. h;
  granted_before = refl;
  granted_after = refl;
  lost_before = refl;
  lost_after = refl;
  fewer = omega arith;
  no_more = omega arith;
  no_fewer = omega arith;
}

-- between a client's arrival and its leaving
pub stay_traces : (p mid q after : PassOf) (g : Gone) (e : Ending) → mid ≡ one_arrived p → after ≡ after_leaving q g → Traces AtAsking mid q e → Traces AtArrival p after e
stay_traces p mid q after g e is l h =
    subst (λ (x : PassOf). Traces AtArrival p x e) (sym l) (wider_end AtAsking AtArrival (one_arrived p) q p (after_leaving q g) (spans_stay p q g) e (subst (λ (x : PassOf). Traces AtAsking x q e) is h))

-- ---- of a link that was granted

pub lost_by : (p q : PassOf) (g : Gone) → q ≡ after_loss p g → HadLink AtLease p q × HasLost p q
lost_by p q g e = subst (λ (x : PassOf). HadLink AtLease p x × HasLost p x) (sym e) (by g)
  where
    by : (g : Gone) → HadLink AtLease p (after_loss p g) × HasLost p (after_loss p g)
    by gone.Done = (refl, λ e. omega arith)
    by gone.Last = (refl, λ e. absurd (true≢false e))
    by gone.Stranger = (refl, λ e. absurd (true≢false e))

pub relayed_traces : (link : LinkView) (g : LoggedIn) (before after : ClientFacts) (p q : PassOf) (e : Ending) → HasRelayed link g before after e → shares.Ends p q → Traces AtLease p q e
relayed_traces link g before after p q (ending.Relayed r) x s = s.granted
relayed_traces link g before after p q ending.Memory x s = tt
relayed_traces link g before after p q ending.Left x s = absurd x
relayed_traces link g before after p q (ending.Refused r) x s = absurd x
relayed_traces link g before after p q ending.Strange x s = absurd x
relayed_traces link g before after p q ending.Last x s = absurd x
relayed_traces link g before after p q ending.Unreached x s = absurd x
relayed_traces link g before after p q (ending.Unstarted cause) x s = absurd x
relayed_traces link g before after p q (ending.Managed r) x s = absurd x

pub unopened_traces : (home : HomeOf) (g : LoggedIn) (p q : PassOf) (e : Ending) → IsUnopened home g e → HadLink AtLease p q × HasLost p q → Traces AtLease p q e
unopened_traces home g p q ending.Unreached x h = h
unopened_traces home g p q (ending.Unstarted cause) x h = h
unopened_traces home g p q ending.Memory x h = tt
unopened_traces home g p q ending.Left x h = absurd x
unopened_traces home g p q (ending.Refused r) x h = absurd x
unopened_traces home g p q ending.Strange x h = absurd x
unopened_traces home g p q ending.Last x h = absurd x
unopened_traces home g p q (ending.Relayed r) x h = absurd x
unopened_traces home g p q (ending.Managed r) x h = absurd x

cause_fault : (limit : ℕ) (bytes : List ℕ) (c : StartCause) → IsFaultyWord limit bytes (final_message_of_start c)
cause_fault limit bytes (cause.Refused error) = tt
cause_fault limit bytes cause.Memory = tt
cause_fault limit bytes cause.Lost = tt
cause_fault limit bytes (cause.Unanswerable question) = tt
cause_fault limit bytes cause.Unexpected = tt
cause_fault limit bytes cause.Turns = tt
cause_fault limit bytes cause.Late = tt

pub unopened_fault : (home : HomeOf) (g : LoggedIn) (limit : ℕ) (bytes : List ℕ) (e : Ending) → IsUnopened home g e → IsFaultyWord limit bytes (final_message_of e)
unopened_fault home g limit bytes ending.Unreached x = tt
unopened_fault home g limit bytes (ending.Unstarted c) x = cause_fault limit bytes c
unopened_fault home g limit bytes ending.Memory x = tt
unopened_fault home g limit bytes ending.Left x = absurd x
unopened_fault home g limit bytes (ending.Refused r) x = absurd x
unopened_fault home g limit bytes ending.Strange x = absurd x
unopened_fault home g limit bytes ending.Last x = absurd x
unopened_fault home g limit bytes (ending.Relayed r) x = absurd x
unopened_fault home g limit bytes (ending.Managed r) x = absurd x

-- ---- a relay's refusals

-- one of these four
abbrev IsRelays : Refusal → Type 0
IsRelays MalformedClientMessage = Unit {0}
IsRelays ClientMessageTooLong = Unit {0}
IsRelays MalformedServerMessage = Unit {0}
IsRelays ServerFailed = Unit {0}
IsRelays other = ⊥

abbrev Relays : Next → Type 0
Relays n = IfSome (refusal_told n) IsRelays

both : (Q : Next → Type 0) (b : Bool) (x y : Next) → Q x → Q y → Q (cond b x y)
both Q true x y p q = p
both Q false x y p q = q

fault_relays : (f : FrameError) → IsRelays (refusal_by f)
fault_relays TooShort = tt
fault_relays TooLong = tt
fault_relays UnknownType = tt
fault_relays UnknownCode = tt

refused_relays : (e : Ends) (n : Next) → Relays n → Relays (refused (refusal_of e) n)
refused_relays Open n h = h
refused_relays Last n h = h
refused_relays (Faulty f) n h = fault_relays f

quiet_relays : (v : RelayView) → Relays (quiet_next true v)
quiet_relays v =
    both Relays (v.to_client.rest == 0) _ _
    (refused_relays v.to_link.ends _ (both Relays (is_faulty v.to_client.ends) _ _ tt (both Relays v.flags.link_over _ _ tt tt)))
    (both Relays v.flags.link_over _ _ tt tt)

judged_relays : (v : RelayView) → IfSome (refusal_at v) IsRelays
judged_relays v = both Relays (is_done v) _ _ tt (both Relays (is_quiet v) _ _ (quiet_relays v) tt)

-- whether anything moved makes no difference to it
same_told : (none : Bool) (v : RelayView) → refusal_told (judged none v) ≡ refusal_at v
same_told true v = refl
same_told false v = two (is_done v) _ _ _ _ refl (two (is_quiet v) _ _ _ _ quiet refl)
  where
    two : (b : Bool) (x y u w : Next) → refusal_told x ≡ refusal_told u → refusal_told y ≡ refusal_told w → refusal_told (cond b x y) ≡ refusal_told (cond b u w)
    two true x y u w e f = e
    two false x y u w e f = f

    ends : (e : Ends) (x u : Next) → refusal_told x ≡ refusal_told u → refusal_told (refused (refusal_of e) x) ≡ refusal_told (refused (refusal_of e) u)
    ends Open x u e = e
    ends Last x u e = e
    ends (Faulty f) x u e = refl

    quiet : refusal_told (quiet_next false v) ≡ refusal_told (quiet_next true v)
    quiet =
        two (v.to_client.rest == 0) _ _ _ _
        (ends v.to_link.ends _ _ (two (is_faulty v.to_client.ends) _ _ _ _ refl (two v.flags.link_over _ _ _ _ refl refl)))
        (two v.flags.link_over _ _ _ _ refl refl)

-- what a pump's answer refuses by
pub told_by_pump : (n : Next) (v : RelayView) → (none : Bool) × (n ≡ judged none v) → refusal_told n ≡ refusal_at v
told_by_pump n v x = ap refusal_told x.1 ∙ same_told x.0 v

-- ---- the trace of the last word

-- it is no client of the console
abbrev pub IsFromServer : Ending → Type 0
IsFromServer (ending.Managed r) = ⊥
IsFromServer _ = Unit {0}

module _ (p q : PassOf) where
  cause_traces : (c : StartCause) → HadLink AtArrival p q × HasLost p q → WordHasTrace AtArrival p q (final_message_of_start c)
  cause_traces (cause.Refused error) h = h
  cause_traces cause.Memory h = tt
  cause_traces cause.Lost h = h
  cause_traces (cause.Unanswerable question) h = h
  cause_traces cause.Unexpected h = h
  cause_traces cause.Turns h = h
  cause_traces cause.Late h = h

  relay_trace : (r : Refusal) → IsRelays r → HadLink AtArrival p q → HasTrace AtArrival p q r
  relay_trace MalformedClientMessage x h = h
  relay_trace ClientMessageTooLong x h = h
  relay_trace MalformedServerMessage x h = h
  relay_trace ServerFailed x h = h
  relay_trace TooManyClients x h = absurd x
  relay_trace UnsupportedProtocol x h = absurd x
  relay_trace UnsupportedParameter x h = absurd x
  relay_trace WaitedTooLong x h = absurd x
  relay_trace ServerNotReached x h = absurd x
  relay_trace ShuttingDown x h = absurd x
  relay_trace OutOfMemory x h = absurd x
  relay_trace LastDecision x h = absurd x

  relayed_word : (r : Option Refusal) → IfSome r IsRelays → HadLink AtArrival p q → WordHasTrace AtArrival p q (or_nothing r)
  relayed_word None x h = tt
  relayed_word (Some r) x h = relay_trace r x h

  pub word_traces : (home : HomeOf) (v : LoginView) (after : ClientFacts) (e : Ending) → IsFromServer e → CameIn home v after e → Traces AtArrival p q e → WordHasTrace AtArrival p q (final_message_of e)
  word_traces home v after ending.Left o c h = tt
  word_traces home v after (ending.Refused r) o c h = h.1
  word_traces home v after ending.Memory o c h = tt
  word_traces home v after ending.Strange o c h = tt
  word_traces home v after ending.Last o c h = h
  word_traces home v after ending.Unreached o c h = h
  word_traces home v after (ending.Unstarted cause) o c h = cause_traces cause h
  word_traces home v after (ending.Managed r) o c h = absurd o
  word_traces home v after (ending.Relayed r) o c h = relayed_word r (subst (λ (o : Option Refusal). IfSome o IsRelays) (sym c.lease.relayed.told) (judged_relays c.lease.relayed.view)) h

-- what was relayed, at fault
faulty_by : (limit : ℕ) (bytes : List ℕ) (f : FrameError) → IsAtFault limit bytes (refusal_by f) → IsFaulty limit bytes (refusal_by f)
faulty_by limit bytes TooShort x = x
faulty_by limit bytes TooLong x = x
faulty_by limit bytes UnknownType x = x
faulty_by limit bytes UnknownCode x = x

-- what was taken since the lease's place
pub relay_fault : (p : Place) (v : RelayView) (took : List ℕ) (r : Refusal) → IsLease p v → v.client.tells ≡ true → v.client.taken ≡ p.taken ++ took → RefusedBy p v r → IsFaulty p.limit took r
relay_fault p v took r x t n (inl e) =
    let c = client_fault p v took [] r x t n e in
    subst (IsFaulty p.limit took) (sym c.1) (faulty_by p.limit took c.0 (subst (λ (l : List ℕ). IsAtFault p.limit l (refusal_by c.0)) (append-nil took) c.2))
relay_fault p v took r x t n (inr (inl e)) = subst (IsFaulty p.limit took) (sym e.0) tt
relay_fault p v took r x t n (inr (inr e)) = subst (IsFaulty p.limit took) (sym e.0) tt
