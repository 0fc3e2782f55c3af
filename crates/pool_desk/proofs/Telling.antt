-- What a pass tells follows the book's counts.
use Rattle.std.proofs.Common.{◌≡◌, ℕ, suc, ◌+◌, Bool, true, false, cond, not, ◌||◌, ◌==◌, nat_lt, length, find, List, Option, None, Some, inl, inr, refl, sym, ap, ◌∙◌, subst, arith}
use native.Mathlib.Numerals.{unary_clauses}
use Rattle.std.proofs.lemmas.Bool.{true≢false}
use Rattle.message_view.specs.declared.refusal.Refusal.TheVariants.{LastDecision}
use Rattle.message_view.specs.declared.views.KeyView.{KeyView}
use Rattle.std.specs.List.{list_any}
use Rattle.session_values.specs.State.{StartKeyOf}
use Rattle.book_model.specs.Book.{Book, Lease, Link, Ticket, in_pool, is_link, is_number, is_of, is_of_client, lendable, link_count, places_beyond, pool_count, pool_size, waiting_before}
use Rattle.book_model.specs.Events.{event_of}
use Rattle.book_model.specs.Outcomes.{Answer, Change, Event, apply, apply_return, at_clock, cancels, changed, closes, counted, decided, ends_lease, evicts, gives_back, grants, hangs_up, has_waited, is_crowded, is_old, is_stale, is_started_as, is_strange, kind_of, kind_of_change, last_decision, outcome, raised, strikes, strikes_at, takes}
use Rattle.book_model.specs.Outcomes.Change.{NewLimits}
use Rattle.book_model.specs.Outcomes.Event.{Arrive, Ask, Take, GiveBack, Lost, StartFailed, Leave, Tick, Makes, Keyed, Cancel, EndLease, HungUp}
use Rattle.book_model.specs.declared.counts.Counts.{Counts}
use Rattle.book_model.specs.declared.counts.Kind.{Kind}
use Rattle.book_model.specs.declared.counts.Kind.TheVariants.{Arrival, ArrivalRefused, Asking, AskRefused, Grant, TicketLost, Return, Loss, FailedStart, Leaving, Ticking, Limiting, Pausing, Resuming, Closing, Keying, Cancelling, LeaseEnding, HangUp, Reconnecting}
use Rattle.book_model.specs.declared.events.Reply.{Reply}
use Rattle.book_model.specs.declared.events.Reply.TheVariants.{Refuse, Done, Stranger, Dispose, Reset}
use Rattle.book_model.proofs.Changing.{with_any_settings}
use Rattle.book_model.proofs.KeepingLists.{not_found}
use Rattle.lease_book.specs.Links.{answered, plain}
use Rattle.lease_book.specs.declared.events.BookEvent.{BookEvent}
use Rattle.lease_book.specs.declared.events.BookEvent.TheVariants as event
use Rattle.desk_tallies.specs.Passes.{Made, PassOf}
use Rattle.desk_tallies.specs.Shares.{AtMost, by_class, sum_of}
use Rattle.pool_desk.specs.Classes.{class_counts}
use Rattle.pool_desk.specs.Tells.{Tells, breaks}

-- ---- one decision more of a kind

abbrev pub one_more : Option Kind → Made → Made
one_more None m = m
one_more (Some Arrival) m = record m { arrived = suc m.arrived }
one_more (Some Grant) m = record m { granted = suc m.granted }
one_more (Some Return) m = record m { given_back = suc m.given_back }
one_more (Some Loss) m = record m { lost = suc m.lost }
one_more (Some FailedStart) m = record m { lost = suc m.lost }
one_more (Some Leaving) m = record m { left = suc m.left }
one_more (Some kind) m = record m { others = suc m.others }

-- the same as a sum
one_of : Option Kind → Made
one_of None = by_class 0 0 0 0 0 0
one_of (Some Arrival) = by_class 1 0 0 0 0 0
one_of (Some Grant) = by_class 0 1 0 0 0 0
one_of (Some Return) = by_class 0 0 1 0 0 0
one_of (Some Loss) = by_class 0 0 0 1 0 0
one_of (Some FailedStart) = by_class 0 0 0 1 0 0
one_of (Some Leaving) = by_class 0 0 0 0 1 0
one_of (Some kind) = by_class 0 0 0 0 0 1

same_made : (m n : Made) → m.arrived ≡ n.arrived → m.granted ≡ n.granted → m.given_back ≡ n.given_back → m.lost ≡ n.lost → m.left ≡ n.left → m.others ≡ n.others → m ≡ n
same_made m n a g b l w o = λ i. by_class (a i) (g i) (b i) (l i) (w i) (o i)

with_lost : (m : Made) (n : ℕ) (k : ℕ) → n ≡ k → record m { lost = n } ≡ record m { lost = k }
with_lost m n k e = ap (λ (x : ℕ). record m { lost = x }) e

with_others : (m : Made) (n : ℕ) (k : ℕ) → n ≡ k → record m { others = n } ≡ record m { others = k }
with_others m n k e = ap (λ (x : ℕ). record m { others = x }) e

class_raised : (k : Kind) (c : Counts) → class_counts (raised k c) ≡ one_more (Some k) (class_counts c)
class_raised Arrival c = refl
class_raised ArrivalRefused c = with_others (class_counts c) _ _ (omega arith)
class_raised Asking c = with_others (class_counts c) _ _ (omega arith)
class_raised AskRefused c = with_others (class_counts c) _ _ (omega arith)
class_raised Grant c = refl
class_raised TicketLost c = with_others (class_counts c) _ _ (omega arith)
class_raised Return c = refl
class_raised Loss c = with_lost (class_counts c) _ _ (omega arith)
class_raised FailedStart c = with_lost (class_counts c) _ _ (omega arith)
class_raised Leaving c = refl
class_raised Ticking c = with_others (class_counts c) _ _ (omega arith)
class_raised Limiting c = with_others (class_counts c) _ _ (omega arith)
class_raised Pausing c = with_others (class_counts c) _ _ (omega arith)
class_raised Resuming c = with_others (class_counts c) _ _ (omega arith)
class_raised Closing c = with_others (class_counts c) _ _ (omega arith)
class_raised Keying c = with_others (class_counts c) _ _ (omega arith)
class_raised Cancelling c = with_others (class_counts c) _ _ (omega arith)
class_raised LeaseEnding c = with_others (class_counts c) _ _ (omega arith)
class_raised HangUp c = with_others (class_counts c) _ _ (omega arith)
class_raised Reconnecting c = with_others (class_counts c) _ _ (omega arith)

class_counted : (b : Book) (k : Option Kind) → class_counts (counted b k).counts ≡ one_more k (class_counts b.counts)
class_counted b None = refl
class_counted b (Some k) = class_raised k b.counts

one_more_is : (k : Option Kind) (m : Made) → one_more k m ≡ sum_of m (one_of k)
unfolding one_of
one_more_is None m = simp unary_clauses refl
one_more_is (Some Arrival) m = simp unary_clauses refl
one_more_is (Some ArrivalRefused) m = simp unary_clauses refl
one_more_is (Some Asking) m = simp unary_clauses refl
one_more_is (Some AskRefused) m = simp unary_clauses refl
one_more_is (Some Grant) m = simp unary_clauses refl
one_more_is (Some TicketLost) m = simp unary_clauses refl
one_more_is (Some Return) m = simp unary_clauses refl
one_more_is (Some Loss) m = simp unary_clauses refl
one_more_is (Some FailedStart) m = simp unary_clauses refl
one_more_is (Some Leaving) m = simp unary_clauses refl
one_more_is (Some Ticking) m = simp unary_clauses refl
one_more_is (Some Limiting) m = simp unary_clauses refl
one_more_is (Some Pausing) m = simp unary_clauses refl
one_more_is (Some Resuming) m = simp unary_clauses refl
one_more_is (Some Closing) m = simp unary_clauses refl
one_more_is (Some Keying) m = simp unary_clauses refl
one_more_is (Some Cancelling) m = simp unary_clauses refl
one_more_is (Some LeaseEnding) m = simp unary_clauses refl
one_more_is (Some HangUp) m = simp unary_clauses refl
one_more_is (Some Reconnecting) m = simp unary_clauses refl

added : (a b n : Made) (m : Made) → sum_of a m ≡ sum_of b (sum_of m n) → a ≡ sum_of b n
added a b n m h =
    same_made a (sum_of b n) (omega (arith, ap (λ (m : Made). m.arrived) h)) (omega (arith, ap (λ (m : Made). m.granted) h)) (omega (arith, ap (λ (m : Made). m.given_back) h)) (omega (arith, ap (λ (m : Made). m.lost) h)) (omega (arith, ap (λ (m : Made). m.left) h)) (omega (arith, ap (λ (m : Made). m.others) h))

-- where the counts have one more, and these shares grew by as much
pub shares_grow : (k : Option Kind) (old before after : Made) → sum_of after old ≡ sum_of before (one_more k old) → after ≡ one_more k before
shares_grow k old before after h = added after before (one_of k) old (h ∙ ap (sum_of before) (one_more_is k old)) ∙ sym (one_more_is k before)

at_most_sum : (m n : Made) → AtMost m (sum_of m n)
at_most_sum m n = record { arrived = omega arith; granted = omega arith; given_back = omega arith; lost = omega arith; left = omega arith; others = omega arith }

pub counts_rise : (k : Option Kind) (old : Made) → AtMost old (one_more k old)
counts_rise k old = subst (AtMost old) (sym (one_more_is k old)) (at_most_sum old (one_of k))

-- ---- what an event's outcome keeps

abbrev pub passed : Option Kind → Reply → PassOf → PassOf
passed k r p = record { made = one_more k p.made; is_broken = breaks r || p.is_broken }

record Fits (b : Book) (e : Event) (a : Answer) : Type 0 where
  pub counts : a.book.counts ≡ b.counts
  pub tells : (p : PassOf) → Tells e a.reply p (passed (kind_of b e a.reply) a.reply p)

both : (Q : Answer → Type 0) (b : Bool) (x y : Answer) → Q x → Q y → Q (cond b x y)
both Q true x y p q = p
both Q false x y p q = q

fits_evicts : (b : Book) (c : ℕ) (t : Ticket) (o : Option Link) → Fits b (Take c) (evicts b t o)
fits_evicts b c t None = record { counts = refl; tells = λ p. refl }
fits_evicts b c t (Some old) = record { counts = refl; tells = λ p. refl }

fits_grants : (b : Book) (c : ℕ) (t : Ticket) (o : Option Link) → Fits b (Take c) (grants b t o)
fits_grants b c t (Some link) = record { counts = refl; tells = λ p. refl }
fits_grants b c t None =
    both (Fits b (Take c)) (nat_lt (pool_count b t.key) (pool_size b.limits t.key)) _ _
    (both (Fits b (Take c)) (nat_lt (link_count b) b.limits.max_links) _ _ (record { counts = refl; tells = λ p. refl }) (fits_evicts b c t (find (λ link. true) b.idle)))
    (fits_evicts b c t (find (in_pool t.key) b.idle))

fits_takes : (b : Book) (c : ℕ) (t : Ticket) → Fits b (Take c) (takes b (Some t))
fits_takes b c t =
    both (Fits b (Take c)) b.is_shut _ _ (record { counts = refl; tells = λ p. (refl, tt) })
    (both (Fits b (Take c)) (has_waited b t) _ _ (record { counts = refl; tells = λ p. (refl, tt) })
    (both (Fits b (Take c)) (b.is_paused || not (waiting_before t.key t.client b.tickets == 0)) _ _ (record { counts = refl; tells = λ p. refl })
    (fits_grants b c t (lendable b.fresh_from t.key b.idle))))

not_strange : (b : Bool) → not b ≡ false → b ≡ true
not_strange true e = refl
not_strange false e = absurd (true≢false e)

fits_taken : (b : Book) (c : ℕ) (o : Option Ticket) → find (is_of c) b.tickets ≡ o → is_strange b (Take c) ≡ false → Fits b (Take c) (takes b o)
fits_taken b c None e known = absurd (true≢false (sym (not_strange _ known) ∙ not_found (is_of c) b.tickets e))
fits_taken b c (Some t) e known = fits_takes b c t

fits_given : (b : Book) (n : ℕ) (o : Option Link) → find (is_link n) b.lent ≡ o → is_strange b (GiveBack n) ≡ false → Fits b (GiveBack n) (gives_back b o)
fits_given b n None e known = absurd (true≢false (sym (not_strange _ known) ∙ not_found (is_link n) b.lent e))
fits_given b n (Some link) e known =
    both (Fits b (GiveBack n)) (is_old b link || is_crowded b link) _ _ (record { counts = refl; tells = λ p. refl }) (record { counts = refl; tells = λ p. refl })

ticked : (now : ℕ) (later : Bool) (p : PassOf) → Tells (Tick now) Done p (passed (cond later (Some Ticking) None) Done p)
ticked now true p = inr refl
ticked now false p = inl refl

fits_closes : (b : Book) (now : ℕ) (o : Option Link) → Fits b (Tick now) (closes (at_clock b now) o)
fits_closes b now None = record { counts = refl; tells = ticked now (nat_lt b.clock now) }
fits_closes b now (Some link) = record { counts = refl; tells = λ p. refl }

fits_strikes : (b : Book) (client : KeyView) (lease : Lease) (host : Option (List ℕ)) → Fits b (Cancel client) (strikes b lease host)
fits_strikes b client lease None = record { counts = refl; tells = λ p. refl }
fits_strikes b client lease (Some host) = record { counts = refl; tells = λ p. refl }

fits_strikes_at : (b : Book) (client : KeyView) (lease : Lease) (o : Option Link) → Fits b (Cancel client) (strikes_at b lease o)
fits_strikes_at b client lease None = record { counts = refl; tells = λ p. refl }
fits_strikes_at b client lease (Some link) = fits_strikes b client lease link.key.host

fits_cancels : (b : Book) (client : KeyView) (o : Option Lease) → Fits b (Cancel client) (cancels b o)
fits_cancels b client None = record { counts = refl; tells = λ p. refl }
fits_cancels b client (Some lease) = fits_strikes_at b client lease (find (is_link lease.link) b.lent)

fits_hung_up : (b : Book) (n : ℕ) (o : Option Link) → Fits b (HungUp n) (hangs_up b o)
fits_hung_up b n None = record { counts = refl; tells = λ p. refl }
fits_hung_up b n (Some link) = record { counts = refl; tells = λ p. refl }

fits_ended : (b : Book) (n : ℕ) (marked : Bool) → Fits b (EndLease n) (record { book = (ends_lease b n).book; reply = cond marked Dispose Reset })
fits_ended b n true = record { counts = refl; tells = λ p. refl }
fits_ended b n false = record { counts = refl; tells = λ p. refl }

changed_counts : (change : Change) (b : Book) → (changed change b).counts ≡ b.counts
changed_counts change b = with_any_settings (λ x. x.counts ≡ b.counts) change b (λ limits paused shut fresh. refl)

changed_tells : (change : Change) (p : PassOf) → Tells (Makes change) Done p (passed (Some (kind_of_change change)) Done p)
changed_tells (NewLimits limits) p = refl
changed_tells _ p = refl

fits : (b : Book) (e : Event) → is_strange b e ≡ false → Fits b e (outcome b e)
fits b (Arrive beyond) known =
    both (Fits b (Arrive beyond)) b.is_shut _ _ (record { counts = refl; tells = λ p. (refl, tt) })
    (both (Fits b (Arrive beyond)) (nat_lt (length b.clients) (b.limits.max_clients + places_beyond beyond)) _ _ (record { counts = refl; tells = λ p. refl }) (record { counts = refl; tells = λ p. (refl, tt) }))
fits b (Ask c key) known = both (Fits b (Ask c key)) b.is_shut _ _ (record { counts = refl; tells = λ p. (refl, tt) }) (record { counts = refl; tells = λ p. refl })
fits b (Take c) known = fits_taken b c (find (is_of c) b.tickets) refl known
fits b (GiveBack n) known = fits_given b n (find (is_link n) b.lent) refl known
fits b (Lost n) known = record { counts = refl; tells = λ p. refl }
fits b (StartFailed n) known = record { counts = refl; tells = λ p. refl }
fits b (Leave c) known = record { counts = refl; tells = λ p. refl }
fits b (Tick now) known = fits_closes b now (find (is_stale (at_clock b now)) b.idle)
fits b (Makes change) known = record { counts = changed_counts change b; tells = changed_tells change }
fits b (Keyed n client server) known = record { counts = refl; tells = λ p. refl }
fits b (Cancel client) known = fits_cancels b client (find (is_of_client client) b.keyed)
fits b (EndLease n) known = fits_ended b n (list_any (is_number n) b.marked)
fits b (HungUp n) known = fits_hung_up b n (find (is_link n) b.idle)

-- ---- the whole answer

pub record Counted (b : Book) (e : Event) (a : Answer) : Type 0 where
  pub kind : Option Kind
  pub counts : class_counts a.book.counts ≡ one_more kind (class_counts b.counts)
  pub tells : (p : PassOf) → Tells e a.reply p (passed kind a.reply p)

counted_last : (b : Book) (e : Event) → Counted b e (record { book = b; reply = Refuse LastDecision })
counted_last b e = record { kind = None; counts = refl; tells = last e }
  where
    last : (e : Event) (p : PassOf) → Tells e (Refuse LastDecision) p (passed None (Refuse LastDecision) p)
    last (Arrive beyond) p = (refl, tt)
    last (Ask c key) p = (refl, tt)
    last (Take c) p = (refl, tt)
    last (GiveBack n) p = refl
    last (Lost n) p = refl
    last (StartFailed n) p = refl
    last (Leave c) p = refl
    last (Tick now) p = refl
    last (Makes change) p = refl
    last (Keyed n client server) p = refl
    last (Cancel client) p = refl
    last (EndLease n) p = refl
    last (HungUp n) p = refl

counted_strange : (b : Book) (e : Event) → is_strange b e ≡ true → Counted b e (record { book = b; reply = Stranger })
counted_strange b e is = record { kind = None; counts = refl; tells = strange e is }
  where
    strange : (e : Event) → is_strange b e ≡ true → (p : PassOf) → Tells e Stranger p (passed None Stranger p)
    strange (Arrive beyond) is p = absurd (true≢false (sym is))
    strange (Ask c key) is p = refl
    strange (Take c) is p = refl
    strange (GiveBack n) is p = refl
    strange (Lost n) is p = refl
    strange (StartFailed n) is p = refl
    strange (Leave c) is p = refl
    strange (Tick now) is p = absurd (true≢false (sym is))
    strange (Makes change) is p = absurd (true≢false (sym is))
    strange (Keyed n client server) is p = refl
    strange (Cancel client) is p = absurd (true≢false (sym is))
    strange (EndLease n) is p = refl
    strange (HungUp n) is p = absurd (true≢false (sym is))

counted_decided : (b : Book) (e : Event) (a : Answer) → Fits b e a → Counted b e (decided b e a)
counted_decided b e a f = record { kind = kind_of b e a.reply; counts = class_counted a.book (kind_of b e a.reply) ∙ ap (λ (c : Counts). one_more (kind_of b e a.reply) (class_counts c)) f.counts; tells = f.tells }

counted_known : (b : Book) (e : Event) (is : Bool) → is_strange b e ≡ is → Counted b e (cond is (record { book = b; reply = Stranger }) (decided b e (outcome b e)))
counted_known b e true is = counted_strange b e is
counted_known b e false is = counted_decided b e (outcome b e) (fits b e is)

counted_all : (b : Book) (e : Event) (last : Bool) → Counted b e (cond last (record { book = b; reply = Refuse LastDecision }) (cond (is_strange b e) (record { book = b; reply = Stranger }) (decided b e (outcome b e))))
counted_all b e true = counted_last b e
counted_all b e false = counted_known b e (is_strange b e) refl

pub counted_apply : (b : Book) (e : Event) → Counted b e (apply b e)
unfolding apply
counted_apply b e = counted_all b e (b.decisions == last_decision)

counted_own : (b : Book) (n : ℕ) (own : Bool) → Counted b (GiveBack n) (cond own (apply b (GiveBack n)) (record { book = b; reply = Stranger }))
counted_own b n true = counted_apply b (GiveBack n)
counted_own b n false = record { kind = None; counts = refl; tells = λ p. refl }

pub counted_return : (b : Book) (n : ℕ) (key : StartKeyOf) (started_at : ℕ) → Counted b (GiveBack n) (apply_return b n key started_at)
unfolding apply_return
counted_return b n key started_at = by_last (b.decisions == last_decision)
  where
    by_last : (last : Bool) → Counted b (GiveBack n) (cond last (record { book = b; reply = Refuse LastDecision }) (cond (is_started_as key started_at (find (is_link n) b.lent)) (apply b (GiveBack n)) (record { book = b; reply = Stranger })))
    by_last true = counted_last b (GiveBack n)
    by_last false = counted_own b n (is_started_as key started_at (find (is_link n) b.lent))

-- ---- the book with its links

module _ {E : Type 0} where
  counted_event : (b : Book) (e : BookEvent E) → Counted b (plain e) (answered b e)
  counted_event b (event.GiveBack l) = counted_return b l.number l.key l.started_at
  counted_event b (event.Plain e) = counted_apply b (event_of e)

  -- the counts after an event are those before, and one more
  counts_are : (b : Book) (e : BookEvent E) (lists : Book) (old new : Made) → class_counts b.counts ≡ old → lists ≡ (answered b e).book → new ≡ class_counts lists.counts → new ≡ one_more (counted_event b e).kind old
  counts_are b e lists old new was is now =
      now ∙ ap (λ (n : Book). class_counts n.counts) is ∙ (counted_event b e).counts ∙ ap (one_more (counted_event b e).kind) was

  pub totals_rise : (b : Book) (e : BookEvent E) (lists : Book) (old new : Made) → class_counts b.counts ≡ old → lists ≡ (answered b e).book → new ≡ class_counts lists.counts → AtMost old new
  totals_rise b e lists old new was is now = subst (AtMost old) (sym (counts_are b e lists old new was is now)) (counts_rise (counted_event b e).kind old)

  pub pass_tells : (b : Book) (e : BookEvent E) (lists : Book) (r : Reply) (old new : Made) (p q : PassOf) → class_counts b.counts ≡ old → lists ≡ (answered b e).book → r ≡ (answered b e).reply → new ≡ class_counts lists.counts
      → sum_of q.made old ≡ sum_of p.made new → q.is_broken ≡ (breaks r || p.is_broken) → Tells (plain e) r p q
  pass_tells b e lists r old new p q was is told now grew broke =
      let k = (counted_event b e).kind in
      let made : q.made ≡ one_more k p.made = shares_grow k old p.made q.made (grew ∙ ap (sum_of p.made) (counts_are b e lists old new was is now)) in
      let same : q ≡ passed k r p = λ i. record { made = made i; is_broken = broke i } in
      subst (Tells (plain e) r p) (sym same) (subst (λ (x : Reply). Tells (plain e) x p (passed k x p)) (sym told) ((counted_event b e).tells p))
