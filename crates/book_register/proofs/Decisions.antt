-- An event's count: by what tells its kind, over what the event leaves of the counts.
use Rattle.std.proofs.Common.{◌≡◌, ℕ, ◌+◌, ◌<◌, arith, Bool, true, false, not, cond, ◌||◌, ◌==◌, Option, None, Some, List, length, refl, sym, ap, ◌∙◌, subst, eq-eqb, eqb-true}
use Rattle.std.specs.Prelude.{find, nat_lt}
use Rattle.std.specs.List.{list_any}
use Rattle.book_model.specs.Book.{Book, Client, Lease, Link, Ticket, in_pool, is_client, is_link, is_number, is_of, is_of_client, is_of_link, lendable, link_count, places_beyond, pool_count, pool_size, waiting_before}
use Rattle.book_model.specs.Outcomes.{Answer, Event, apply, at_clock, cancels, closes, counted, decided, evicts, gives_back, grants, hangs_up, has_waited, is_crowded, is_old, is_stale, is_strange, kind_of, last_decision, outcome, strikes, strikes_at, takes}
use Rattle.book_model.specs.Outcomes.Event.{Arrive, Ask, Take, GiveBack, Lost, StartFailed, Leave, Tick, Makes, Keyed, Cancel, EndLease, HungUp}
use Rattle.book_model.specs.declared.counts.Kind.{Kind}
use Rattle.book_model.specs.declared.events.Reply.{Reply}
use Rattle.book_model.specs.declared.events.Reply.TheVariants.{Refuse, Done, Stranger}
use Rattle.message_view.specs.declared.refusal.Refusal.TheVariants.{LastDecision}
use Rattle.book_register.specs.Choices.{Gives}
use Rattle.book_register.specs.Kinds.{kind_in, kinds_of}
use Rattle.book_register.specs.declared.deciding.Kinds.{Kinds}
use Rattle.book_model.specs.Kept.{Kept, KeptClients, KeptCounts, total}
use Rattle.book_model.specs.declared.limits.TheConstants.{MAX_LINKS}
use Rattle.book_model.proofs.Changing.{with_any_settings}
use Rattle.book_model.proofs.KeepingLists.{any_counts, longer, none_counts}

pub kind_is : (b : Book) (e : Event) (r : Reply) → kind_in (kinds_of b e) r ≡ kind_of b e r
kind_is b (Arrive beyond) r = elim r as (λ x. kind_in (kinds_of b (Arrive beyond)) x ≡ kind_of b (Arrive beyond) x) [ Done ↦ refl | _ ↦ refl ]
kind_is b (Ask client key) r = elim r as (λ x. kind_in (kinds_of b (Ask client key)) x ≡ kind_of b (Ask client key) x) [ Done ↦ refl | _ ↦ refl ]
kind_is b (Take client) r = elim r as (λ x. kind_in (kinds_of b (Take client)) x ≡ kind_of b (Take client) x) [ Done ↦ refl | _ ↦ refl ]
kind_is b (GiveBack n) r = elim r as (λ x. kind_in (kinds_of b (GiveBack n)) x ≡ kind_of b (GiveBack n) x) [ Done ↦ refl | _ ↦ refl ]
kind_is b (Lost n) r = elim r as (λ x. kind_in (kinds_of b (Lost n)) x ≡ kind_of b (Lost n) x) [ Done ↦ refl | _ ↦ refl ]
kind_is b (StartFailed n) r = elim r as (λ x. kind_in (kinds_of b (StartFailed n)) x ≡ kind_of b (StartFailed n) x) [ Done ↦ refl | _ ↦ refl ]
kind_is b (Leave client) r = elim r as (λ x. kind_in (kinds_of b (Leave client)) x ≡ kind_of b (Leave client) x) [ Done ↦ refl | _ ↦ refl ]
kind_is b (Tick now) r = elim r as (λ x. kind_in (kinds_of b (Tick now)) x ≡ kind_of b (Tick now) x) [ Done ↦ refl | _ ↦ refl ]
kind_is b (Makes change) r = elim r as (λ x. kind_in (kinds_of b (Makes change)) x ≡ kind_of b (Makes change) x) [ Done ↦ refl | _ ↦ refl ]
kind_is b (Keyed n client server) r = elim r as (λ x. kind_in (kinds_of b (Keyed n client server)) x ≡ kind_of b (Keyed n client server) x) [ Done ↦ refl | _ ↦ refl ]
kind_is b (Cancel client) r = elim r as (λ x. kind_in (kinds_of b (Cancel client)) x ≡ kind_of b (Cancel client) x) [ Done ↦ refl | _ ↦ refl ]
kind_is b (EndLease n) r = elim r as (λ x. kind_in (kinds_of b (EndLease n)) x ≡ kind_of b (EndLease n) x) [ Done ↦ refl | _ ↦ refl ]
kind_is b (HungUp n) r = elim r as (λ x. kind_in (kinds_of b (HungUp n)) x ≡ kind_of b (HungUp n) x) [ Done ↦ refl | _ ↦ refl ]

-- an event's answer with its count, of the kind that its reply tells
pub counted_is : (next new b : Book) (e : Event) (r : Reply) (kinds : Kinds) (k : Option Kind) → Gives next r (outcome b e) → kinds ≡ kinds_of b e → k ≡ kind_in kinds r → new ≡ counted next k → Gives new r (decided b e (outcome b e))
counted_is next new b e r kinds k gave are is more =
    let kind : k ≡ kind_of b e (outcome b e).reply = is ∙ ap (λ (x : Kinds). kind_in x r) are ∙ kind_is b e r ∙ ap (kind_of b e) gave.1 in
    (more ∙ ap (λ (x : Book). counted x k) gave.0 ∙ ap (counted (outcome b e).book) kind, gave.1)

-- ---- an event leaves the counts alone

pub record Uncounted (b : Book) (a : Answer) : Type 0 where
  pub decisions : a.book.decisions ≡ b.decisions
  pub counts : a.book.counts ≡ b.counts

either : {b : Book} (test : Bool) (x y : Answer) → Uncounted b x → Uncounted b y → Uncounted b (cond test x y)
either true x y h k = h
either false x y h k = k

abbrev plain : {b : Book} {a : Answer} → a.book.decisions ≡ b.decisions → a.book.counts ≡ b.counts → Uncounted b a
plain d c = record { decisions = d; counts = c }

evicts_uncounted : (b : Book) (t : Ticket) (o : Option Link) → Uncounted b (evicts b t o)
evicts_uncounted b t None = plain refl refl
evicts_uncounted b t (Some old) = plain refl refl

grants_uncounted : (b : Book) (t : Ticket) (o : Option Link) → Uncounted b (grants b t o)
grants_uncounted b t (Some link) = plain refl refl
grants_uncounted b t None =
    either (nat_lt (pool_count b t.key) (pool_size b.limits t.key)) _ _
    (either (nat_lt (link_count b) b.limits.max_links) _ _ (plain refl refl) (evicts_uncounted b t (find (λ link. true) b.idle)))
    (evicts_uncounted b t (find (in_pool t.key) b.idle))

takes_uncounted : (b : Book) (o : Option Ticket) → Uncounted b (takes b o)
takes_uncounted b None = plain refl refl
takes_uncounted b (Some t) =
    either b.is_shut _ _ (plain refl refl)
    (either (has_waited b t) _ _ (plain refl refl)
    (either (b.is_paused || not (waiting_before t.key t.client b.tickets == 0)) _ _ (plain refl refl) (grants_uncounted b t (lendable b.fresh_from t.key b.idle))))

gives_back_uncounted : (b : Book) (o : Option Link) → Uncounted b (gives_back b o)
gives_back_uncounted b None = plain refl refl
gives_back_uncounted b (Some link) = either (is_old b link || is_crowded b link) _ _ (plain refl refl) (plain refl refl)

closes_uncounted : (b : Book) (now : ℕ) (o : Option Link) → Uncounted b (closes (at_clock b now) o)
closes_uncounted b now None = plain refl refl
closes_uncounted b now (Some link) = plain refl refl

hangs_up_uncounted : (b : Book) (o : Option Link) → Uncounted b (hangs_up b o)
hangs_up_uncounted b None = plain refl refl
hangs_up_uncounted b (Some link) = plain refl refl

cancels_uncounted : (b : Book) (o : Option Lease) → Uncounted b (cancels b o)
cancels_uncounted b None = plain refl refl
cancels_uncounted b (Some lease) = at (find (is_link lease.link) b.lent)
  where
    by_host : (host : Option (List ℕ)) → Uncounted b (strikes b lease host)
    by_host None = plain refl refl
    by_host (Some host) = plain refl refl

    at : (o : Option Link) → Uncounted b (strikes_at b lease o)
    at None = plain refl refl
    at (Some link) = by_host link.key.host

pub uncounted : (b : Book) (e : Event) → Uncounted b (outcome b e)
uncounted b (Arrive beyond) = either b.is_shut _ _ (plain refl refl) (either (nat_lt (length b.clients) (b.limits.max_clients + places_beyond beyond)) _ _ (plain refl refl) (plain refl refl))
uncounted b (Ask client key) = either b.is_shut _ _ (plain refl refl) (plain refl refl)
uncounted b (Take client) = takes_uncounted b (find (is_of client) b.tickets)
uncounted b (GiveBack n) = gives_back_uncounted b (find (is_link n) b.lent)
uncounted b (Lost n) = plain refl refl
uncounted b (StartFailed n) = plain refl refl
uncounted b (Leave client) = plain refl refl
uncounted b (Tick now) = closes_uncounted b now (find (is_stale (at_clock b now)) b.idle)
uncounted b (Makes change) = with_any_settings (λ (n : Book). Uncounted b (record { book = n; reply = Done })) change b (λ limits is_paused is_shut fresh_from. plain refl refl)
uncounted b (Keyed n client server) = plain refl refl
uncounted b (Cancel client) = cancels_uncounted b (find (is_of_client client) b.keyed)
uncounted b (EndLease n) = plain refl refl
uncounted b (HungUp n) = hangs_up_uncounted b (find (is_link n) b.idle)

-- so they agree as before, and there may be one decision more
pub still_counted : (b mid : Book) (e : Event) (r : Reply) → KeptCounts b → Gives mid r (outcome b e) → total mid.counts ≡ mid.decisions
still_counted b mid e r k given =
    let u : Uncounted b (outcome b e) = uncounted b e in
    ap (λ (m : Book). total m.counts) given.0 ∙ (ap total u.counts ∙ (k.all ∙ (sym u.decisions ∙ ap (λ (m : Book). m.decisions) (sym given.0))))

pub still_more : (b mid : Book) (e : Event) (r : Reply) → b.decisions < last_decision → Gives mid r (outcome b e) → mid.decisions < last_decision
still_more b mid e r more given = subst (λ (n : ℕ). n < last_decision) (sym (ap (λ (m : Book). m.decisions) given.0 ∙ (uncounted b e).decisions)) more

-- ---- a client that may ask has no ticket, so there are fewer tickets than clients

known : (here asked : Bool) → (not here || asked) ≡ false → (here ≡ true) × (asked ≡ false)
known true asked e = (refl, e)
known false asked e = cc

pub asker_has_room : (clients : List Client) (tickets : List Ticket) (next client : ℕ) → KeptClients clients tickets next → (not (list_any (is_client client) clients) || list_any (is_of client) tickets) ≡ false → length tickets < length clients
asker_has_room clients tickets next client kept e =
    let tested = known (list_any (is_client client) clients) (list_any (is_of client) tickets) e in
    longer (λ (t : Ticket). t.client) (λ (c : Client). c.number) client tickets clients kept.of_clients (none_counts (is_of client) tickets tested.1) (any_counts (is_client client) clients tested.0)

-- ---- a lease that may be keyed is none yet, so there are fewer leases than lent links

pub lease_has_room : (b : Book) (n : ℕ) → Kept b → (not (list_any (is_link n) b.lent) || (list_any (is_of_link n) b.keyed || list_any (is_number n) b.ended)) ≡ false → length b.keyed < MAX_LINKS
lease_has_room b n kept e = omega (arith, kept.links.fit, longer (λ (l : Lease). l.link) (λ (l : Link). l.number) n b.keyed b.lent kept.leases.keyed (none_counts (is_of_link n) b.keyed (first (list_any (is_of_link n) b.keyed) _ tested.1)) (any_counts (is_link n) b.lent tested.0))
  where
    tested : (list_any (is_link n) b.lent ≡ true) × ((list_any (is_of_link n) b.keyed || list_any (is_number n) b.ended) ≡ false)
    tested = known (list_any (is_link n) b.lent) _ e

    first : (p q : Bool) → (p || q) ≡ false → p ≡ false
    first true q f = f
    first false q f = refl

pub ends_lent : (p : Bool) → not p ≡ false → p ≡ true
ends_lent true e = refl
ends_lent false e = cc

-- ---- an event as a whole; `before` is the book as its fields stand

by_cases : (b after : Book) (e : Event) (r : Reply) (last strange : Bool) → (b.decisions == last_decision) ≡ last → is_strange b e ≡ strange → Gives after r (cond last (record { book = b; reply = Refuse LastDecision }) (cond strange (record { book = b; reply = Stranger }) (decided b e (outcome b e)))) → Gives after r (apply b e)
unfolding apply
by_cases b after e r last strange h s given =
    let rest : Bool → Answer = λ v. cond v (record { book = b; reply = Stranger }) (decided b e (outcome b e)) in
    let whole : apply b e ≡ cond last (record { book = b; reply = Refuse LastDecision }) (rest strange) =
    ap (λ (v : Bool). cond {A = Answer} v (record { book = b; reply = Refuse LastDecision }) (rest (is_strange b e))) h ∙ ap (λ (v : Bool). cond {A = Answer} last (record { book = b; reply = Refuse LastDecision }) (rest v)) s in
    (given.0 ∙ ap (λ (a : Answer). a.book) (sym whole), given.1 ∙ ap (λ (a : Answer). a.reply) (sym whole))

pub at_last : (before b : Book) → before ≡ b → before.decisions ≡ last_decision → (b.decisions == last_decision) ≡ true
at_last before b same h = eq-eqb b.decisions last_decision (ap (λ (v : Book). v.decisions) (sym same) ∙ h)

pub before_last : (before b : Book) → before ≡ b → (before.decisions ≡ last_decision → ⊥) → (b.decisions == last_decision) ≡ false
before_last before b same h = go (b.decisions == last_decision) refl
  where
    go : (v : Bool) → (b.decisions == last_decision) ≡ v → v ≡ false
    go true e = absurd (h (ap (λ (w : Book). w.decisions) same ∙ eqb-true b.decisions last_decision e))
    go false e = refl

pub last_one : (before b : Book) (e : Event) → before ≡ b → before.decisions ≡ last_decision → Gives b (Refuse LastDecision) (apply b e)
last_one before b e same h = by_cases b b e (Refuse LastDecision) true (is_strange b e) (at_last before b same h) refl (refl, refl)

pub strangers : (before b : Book) (e : Event) → before ≡ b → (before.decisions ≡ last_decision → ⊥) → is_strange b e ≡ true → Gives b Stranger (apply b e)
strangers before b e same h s = by_cases b b e Stranger false true (before_last before b same h) s (refl, refl)

pub goes_on : (before b after : Book) (e : Event) (r : Reply) → before ≡ b → (before.decisions ≡ last_decision → ⊥) → is_strange b e ≡ false → Gives after r (decided b e (outcome b e)) → Gives after r (apply b e)
goes_on before b after e r same h s given = by_cases b after e r false false (before_last before b same h) s given

-- the lists after the event, counted by what told its kind before
pub decided_so : (b mid after : Book) (e : Event) (r : Reply) (k : Option Kind) → Gives mid r (outcome b e) → k ≡ kind_in (kinds_of b e) r → after ≡ counted mid k → Gives after r (decided b e (outcome b e))
decided_so b mid after e r k given told done =
    let kind : k ≡ kind_of b e (outcome b e).reply = told ∙ (kind_is b e r ∙ ap (kind_of b e) given.1) in
    (done ∙ (ap (λ (m : Book). counted m k) given.0 ∙ ap (counted (outcome b e).book) kind), given.1)
