-- What an event does to the number of decisions, and to the lists where it is none.
use Rattle.std.proofs.Common.{◌≡◌, ℕ, suc, ◌+◌, Bool, true, false, cond, List, Option, None, Some, length, refl, ap, ◌∙◌, arith}
use Rattle.std.specs.Prelude.{find, not, ◌==◌, ◌&&◌, ◌||◌, nat_lt}
use Rattle.std.proofs.lemmas.Bool.{le-ltb, lt-ltb}
use Rattle.message_view.specs.declared.refusal.Refusal.{Refusal}
use Rattle.message_view.specs.declared.refusal.Refusal.TheVariants.{TooManyClients, WaitedTooLong, ShuttingDown, LastDecision}
use Rattle.message_view.specs.declared.views.KeyView.{KeyView}
use Rattle.book_model.specs.Book.{Book, Lease, Link, Ticket, in_pool, lendable, link_count, places_beyond, pool_count, pool_size, is_of, is_of_client, is_link, waiting_before}
use Rattle.book_model.specs.Outcomes.{Answer, Event, apply, outcome, decided, counted, is_strange, kind_of, last_decision, loses_ticket, evicts, grants, hangs_up, has_waited, takes, is_old, is_crowded, gives_back, closes, at_clock, is_stale, cancels, strikes, strikes_at}
use Rattle.book_model.specs.Outcomes.Event.{Arrive, Ask, Take, GiveBack, Lost, StartFailed, Leave, Tick, Makes, Keyed, Cancel, EndLease, HungUp}
use Rattle.book_model.specs.declared.counts.Kind.{Kind}
use Rattle.book_model.specs.declared.counts.Kind.TheVariants.{Ticking}
use Rattle.book_model.specs.declared.events.Reply.{Reply}
use Rattle.book_model.specs.declared.events.Reply.TheVariants.{Queued, Refuse, Stranger, Nobody}
use Rattle.book_model.specs.Replay.{is_decision, is_a_kind}
use Rattle.book_model.proofs.Changing.{with_any_settings}

both : (Q : Answer → Type 0) (b : Bool) (x y : Answer) → Q x → Q y → Q (cond b x y)
both Q true x y p q = p
both Q false x y p q = q

-- what every event's outcome keeps: the number of decisions, and all where it is of no kind
record Fair (b : Book) (e : Event) (a : Answer) : Type 0 where
  pub counts : a.book.decisions ≡ b.decisions
  pub stays : kind_of b e a.reply ≡ None → a.book ≡ b

moved : (b : Book) (e : Event) (a : Answer) (k : Kind) → a.book.decisions ≡ b.decisions → kind_of b e a.reply ≡ Some k → Fair b e a
moved b e a k c s = record { counts = c; stays = λ n. cc }

same : (b : Book) (e : Event) (r : Reply) → Fair b e (record { book = b; reply = r })
same b e r = record { counts = refl; stays = λ n. refl }

fair_evicts : (b : Book) (c : ℕ) (t : Ticket) (o : Option Link) → Fair b (Take c) (evicts b t o)
fair_evicts b c t None = same b (Take c) (Queued (waiting_before t.key t.client b.tickets))
fair_evicts b c t (Some old) = record { counts = refl; stays = λ n. cc }

fair_grants : (b : Book) (c : ℕ) (t : Ticket) (o : Option Link) → Fair b (Take c) (grants b t o)
fair_grants b c t (Some link) = record { counts = refl; stays = λ n. cc }
fair_grants b c t None =
    both (Fair b (Take c)) (nat_lt (pool_count b t.key) (pool_size b.limits t.key)) _ _
    (both (Fair b (Take c)) (nat_lt (link_count b) b.limits.max_links) _ _ (record { counts = refl; stays = λ n. cc }) (fair_evicts b c t (find (λ link. true) b.idle)))
    (fair_evicts b c t (find (in_pool t.key) b.idle))

fair_loses_ticket : (b : Book) (c : ℕ) (t : Ticket) (r : Refusal) → Fair b (Take c) (loses_ticket b t r)
fair_loses_ticket b c t r = record { counts = refl; stays = λ n. cc }

fair_takes : (b : Book) (c : ℕ) (o : Option Ticket) → Fair b (Take c) (takes b o)
fair_takes b c None = same b (Take c) Stranger
fair_takes b c (Some t) =
    both (Fair b (Take c)) b.is_shut _ _ (fair_loses_ticket b c t ShuttingDown)
    (both (Fair b (Take c)) (has_waited b t) _ _ (fair_loses_ticket b c t WaitedTooLong)
    (both (Fair b (Take c)) (b.is_paused || not (waiting_before t.key t.client b.tickets == 0)) _ _ (same b (Take c) (Queued (waiting_before t.key t.client b.tickets)))
    (fair_grants b c t (lendable b.fresh_from t.key b.idle))))

fair_gives : (b : Book) (n : ℕ) (o : Option Link) → Fair b (GiveBack n) (gives_back b o)
fair_gives b n None = same b (GiveBack n) Stranger
fair_gives b n (Some link) =
    both (Fair b (GiveBack n)) (is_old b link || is_crowded b link) _ _ (record { counts = refl; stays = λ n. cc }) (record { counts = refl; stays = λ n. cc })

clock_stays : (b : Book) (now : ℕ) (t : Bool) → nat_lt b.clock now ≡ t → cond t (Some Ticking) None ≡ None → at_clock b now ≡ b
clock_stays b now true e n = cc
clock_stays b now false e n = ap (λ (x : Bool). record b { clock = cond x now b.clock }) e

fair_closes : (b : Book) (now : ℕ) (o : Option Link) → Fair b (Tick now) (closes (at_clock b now) o)
fair_closes b now None = record { counts = refl; stays = λ n. clock_stays b now (nat_lt b.clock now) refl n }
fair_closes b now (Some link) = record { counts = refl; stays = λ n. cc }

fair_hangs_up : (b : Book) (n : ℕ) (o : Option Link) → Fair b (HungUp n) (hangs_up b o)
fair_hangs_up b n None = same b (HungUp n) Nobody
fair_hangs_up b n (Some link) = record { counts = refl; stays = λ k. cc }

fair_strikes : (b : Book) (client : KeyView) (lease : Lease) (host : Option (List ℕ)) → Fair b (Cancel client) (strikes b lease host)
fair_strikes b client lease None = same b (Cancel client) Nobody
fair_strikes b client lease (Some host) = record { counts = refl; stays = λ n. cc }

fair_strikes_at : (b : Book) (client : KeyView) (lease : Lease) (o : Option Link) → Fair b (Cancel client) (strikes_at b lease o)
fair_strikes_at b client lease None = same b (Cancel client) Nobody
fair_strikes_at b client lease (Some link) = fair_strikes b client lease link.key.host

fair_cancels : (b : Book) (client : KeyView) (o : Option Lease) → Fair b (Cancel client) (cancels b o)
fair_cancels b client None = same b (Cancel client) Nobody
fair_cancels b client (Some lease) = fair_strikes_at b client lease (find (is_link lease.link) b.lent)

fair : (b : Book) (e : Event) → Fair b e (outcome b e)
fair b (Arrive beyond) =
    both (Fair b (Arrive beyond)) b.is_shut _ _ (same b (Arrive beyond) (Refuse ShuttingDown))
    (both (Fair b (Arrive beyond)) (nat_lt (length b.clients) (b.limits.max_clients + places_beyond beyond)) _ _ (record { counts = refl; stays = λ n. cc }) (same b (Arrive beyond) (Refuse TooManyClients)))
fair b (Ask c key) =
    both (Fair b (Ask c key)) b.is_shut _ _ (same b (Ask c key) (Refuse ShuttingDown)) (record { counts = refl; stays = λ n. cc })
fair b (Take c) = fair_takes b c (find (is_of c) b.tickets)
fair b (GiveBack n) = fair_gives b n (find (is_link n) b.lent)
fair b (Lost n) = record { counts = refl; stays = λ n. cc }
fair b (StartFailed n) = record { counts = refl; stays = λ n. cc }
fair b (Leave c) = record { counts = refl; stays = λ n. cc }
fair b (Tick now) = fair_closes b now (find (is_stale (at_clock b now)) b.idle)
fair b (Makes change) = record { counts = with_any_settings (λ x. x.decisions ≡ b.decisions) change b (λ limits paused shut fresh. refl); stays = λ n. cc }
fair b (Keyed n client server) = record { counts = refl; stays = λ k. cc }
fair b (Cancel client) = fair_cancels b client (find (is_of_client client) b.keyed)
fair b (EndLease n) = record { counts = refl; stays = λ k. cc }
fair b (HungUp n) = fair_hangs_up b n (find (is_link n) b.idle)

-- ---- the whole answer

-- what an event does that is a decision, and what one that is none
record Counts (b : Book) (is : Bool) (a : Answer) : Type 0 where
  pub raises : is ≡ true → a.book.decisions ≡ suc b.decisions
  pub stays : is ≡ false → a.book ≡ b

counts_decided : (b : Book) (e : Event) (a : Answer) (k : Option Kind) → Fair b e a → kind_of b e a.reply ≡ k → Counts b (is_a_kind k) (record { book = counted a.book k; reply = a.reply })
counts_decided b e a None f is = record { raises = λ n. cc; stays = λ n. f.stays is }
counts_decided b e a (Some k) f is = record { raises = λ n. ap suc f.counts; stays = λ n. cc }

counts_known : (b : Book) (e : Event) (is : Bool) → Counts b (not is && is_a_kind (kind_of b e (outcome b e).reply)) (cond is (record { book = b; reply = Stranger }) (decided b e (outcome b e)))
counts_known b e true = record { raises = λ n. cc; stays = λ n. refl }
counts_known b e false = counts_decided b e (outcome b e) (kind_of b e (outcome b e).reply) (fair b e) refl

counts_all : (b : Book) (e : Event) (last : Bool) → Counts b (not last && (not (is_strange b e) && is_a_kind (kind_of b e (outcome b e).reply))) (cond last (record { book = b; reply = Refuse LastDecision }) (cond (is_strange b e) (record { book = b; reply = Stranger }) (decided b e (outcome b e))))
counts_all b e true = record { raises = λ n. cc; stays = λ n. refl }
counts_all b e false = counts_known b e (is_strange b e)

pub apply_raises : (b : Book) (e : Event) → is_decision b e ≡ true → (apply b e).book.decisions ≡ suc b.decisions
unfolding apply
apply_raises b e is = (counts_all b e (b.decisions == last_decision)).raises is

pub apply_stays : (b : Book) (e : Event) → is_decision b e ≡ false → (apply b e).book ≡ b
unfolding apply
apply_stays b e is = (counts_all b e (b.decisions == last_decision)).stays is

-- the number of decisions rises just where an event is one
pub rises : (b : Book) (e : Event) → nat_lt b.decisions (apply b e).book.decisions ≡ is_decision b e
rises b e = by_case b e (is_decision b e) refl
  where
    by_case : (b : Book) (e : Event) (is : Bool) → is_decision b e ≡ is → nat_lt b.decisions (apply b e).book.decisions ≡ is
    by_case b e true is = ap (nat_lt b.decisions) (apply_raises b e is) ∙ lt-ltb b.decisions (suc b.decisions) (omega arith)
    by_case b e false is = ap (λ (x : Book). nat_lt b.decisions x.decisions) (apply_stays b e is) ∙ le-ltb b.decisions b.decisions (omega arith)
