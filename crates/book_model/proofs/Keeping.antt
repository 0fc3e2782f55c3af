-- Each event leaves a book in order that was in order.
use Rattle.std.proofs.Common.{◌≡◌, ℕ, suc, ◌+◌, ◌≤◌, ◌<◌, Bool, true, false, cond, not, ◌||◌, ◌==◌, nat_lt, List, [], ◌∷◌, ◌++◌, length, count_by, find, Option, None, Some, refl, sym, ◌∙◌, arith, eq-eqb, ltb-true}
use Rattle.std.specs.List.{list_any}
use Rattle.std.proofs.lemmas.Bool.{true≢false}
use Rattle.message_view.specs.declared.refusal.Refusal.{Refusal}
use Rattle.message_view.specs.declared.refusal.Refusal.TheVariants.{TooManyClients, WaitedTooLong, ShuttingDown}
use Rattle.message_view.specs.declared.views.KeyView.{KeyView}
use Rattle.session_values.specs.State.{StartKeyOf}
use Rattle.start_keys.specs.Keys.{same_key}
use Rattle.book_model.specs.Book.{Limits, Book, Lease, Link, Ticket, in_pool, is_client, is_fresh, is_link, is_number, is_of, is_of_client, is_of_link, lendable, link_count, places_beyond, pool_count, pool_size, waiting_before, with_number, without, without_ticket, empty_book}
use Rattle.book_model.specs.Outcomes.{Answer, Change, Event, apply, apply_return, arrives, asks, at_clock, cancels, closes, counted, ends_lease, evicts, gives_back, grants, hangs_up, has_waited, in_state, is_crowded, is_old, is_stale, is_started_as, is_strange, keys, kind_of, kind_of_change, last_decision, leaves, lends, loses_ticket, outcome, starts, strikes, strikes_at, takes}
use Rattle.book_model.specs.Outcomes.Event.{Arrive, Ask, Take, GiveBack, Lost, StartFailed, Leave, Tick, Makes, Keyed, Cancel, EndLease, HungUp}
use Rattle.book_model.specs.declared.counts.Kind.{Kind}
use Rattle.book_model.specs.declared.counts.Kind.TheVariants.{Arrival, ArrivalRefused, Asking, AskRefused, TicketLost, Leaving, Ticking, Keying, Cancelling, LeaseEnding, HangUp}
use Rattle.book_model.specs.declared.events.Beyond.{Beyond}
use Rattle.book_model.specs.declared.events.Beyond.TheVariants.{Nothing, Console, LocalConsole}
use Rattle.book_model.specs.declared.events.ClientState.TheVariants.{LoggingIn, Waiting, Active}
use Rattle.book_model.specs.declared.limits.TheConstants.{MAX_PRESENT}
use Rattle.book_model.specs.Kept.{FitsLimits, Kept, KeptClients, KeptFresh, KeptLimits, LatestFreshIsLent}
use Rattle.book_model.proofs.KeepingLists.{any_counts, found_any, found_counts, last_counts, none_counts, not_found}
use Rattle.book_model.proofs.KeepingClients.{client_comes, client_goes, state_changes, ticket_comes, ticket_goes}
use Rattle.book_model.proofs.KeepingLinks.{idle_goes, lent_goes, link_is_idle, link_is_lent, link_starts, place_left}
use Rattle.book_model.proofs.KeepingFresh.{fresh_returns, idle_leaves, kept_is_fresh, latest_fresh, lendable_is, number_taken}
use Rattle.book_model.proofs.KeepingLeases.{lease_ends, lease_goes, lease_is_keyed, link_is_leased, link_is_marked}
use Rattle.book_model.proofs.Changing.{change_fits, change_fresh, change_untold, settled, with_any_settings}
use Rattle.book_model.proofs.KeepingCounts.{arrival_counts, counts_stay, failure_counts, loss_counts, return_counts, reuse_counts, start_counts}

by_branch : {A : Type 0} (P : A → Type 0) (d : Bool) (x y : A) → (d ≡ true → P x) → (d ≡ false → P y) → P (cond d x y)
by_branch P true x y h k = h refl
by_branch P false x y h k = k refl

-- an answer's book is in order when it is counted
abbrev Keeps : Book → Event → Answer → Type 0
Keeps b e a = Kept (counted a.book (kind_of b e a.reply))

-- ---- clients

few_places : (beyond : Beyond) → places_beyond beyond ≤ 80
few_places Nothing = omega arith
few_places Console = omega arith
few_places LocalConsole = omega arith

arrives_keeps : (b : Book) (beyond : Beyond) → Kept b → Keeps b (Arrive beyond) (arrives b beyond)
arrives_keeps b beyond h =
    by_branch (Keeps b (Arrive beyond)) b.is_shut _ _ (λ _. refused ShuttingDown)
    (λ _. by_branch (Keeps b (Arrive beyond)) (nat_lt (length b.clients) (b.limits.max_clients + places_beyond beyond)) _ _ room (λ _. refused TooManyClients))
  where
    refused : (refusal : Refusal) → Kept (counted b (Some ArrivalRefused))
    refused refusal = record { clients = h.clients; links = h.links; fresh = h.fresh; leases = h.leases; counts = counts_stay ArrivalRefused b b refl refl refl h.counts; limits = h.limits }

    fits : length b.clients < b.limits.max_clients + places_beyond beyond → length b.clients < MAX_PRESENT
    fits few = omega (arith, few, few_places beyond, h.limits.clients)

    room : nat_lt (length b.clients) (b.limits.max_clients + places_beyond beyond) ≡ true → Kept (counted (record b { clients = b.clients ++ record { number = b.next_client; state = LoggingIn } ∷ []; next_client = suc b.next_client }) (Some Arrival))
    room e = record {
      clients = client_comes b.clients b.tickets b.next_client (record { number = b.next_client; state = LoggingIn }) refl (fits (ltb-true _ _ e)) h.clients;
      links = h.links;
      fresh = h.fresh;
      leases = h.leases;
      counts = arrival_counts b _ h.counts;
      limits = h.limits;
    }

second_of : (p q : Bool) → (not p || q) ≡ false → (p ≡ true) × (q ≡ false)
second_of true q e = (refl, e)
second_of false q e = absurd (true≢false e)

not_false : (p : Bool) → not p ≡ false → p ≡ true
not_false true e = refl
not_false false e = absurd (true≢false e)

asks_keeps : (b : Book) (client : ℕ) (key : StartKeyOf) → is_strange b (Ask client key) ≡ false → Kept b → Keeps b (Ask client key) (asks b client key)
asks_keeps b client key known h =
    by_branch (Keeps b (Ask client key)) b.is_shut _ _
    (λ _. record { clients = h.clients; links = h.links; fresh = h.fresh; leases = h.leases; counts = counts_stay AskRefused b b refl refl refl h.counts; limits = h.limits })
    (λ _. record { clients = state_changes Waiting client b.clients _ b.next_client more; links = h.links; fresh = h.fresh; leases = h.leases; counts = counts_stay Asking b (record b { clients = in_state Waiting client b.clients; tickets = b.tickets ++ record { client = client; key = key; since = b.clock } ∷ [] }) refl refl refl h.counts; limits = h.limits })
  where
    there : (list_any (is_client client) b.clients ≡ true) × (list_any (is_of client) b.tickets ≡ false)
    there = second_of _ _ known

    more : KeptClients b.clients (b.tickets ++ record { client = client; key = key; since = b.clock } ∷ []) b.next_client
    more = ticket_comes b.clients b.tickets b.next_client (record { client = client; key = key; since = b.clock }) (any_counts (is_client client) b.clients there.0) (none_counts (is_of client) b.tickets there.1) h.clients

leaves_keeps : (b : Book) (client : ℕ) → Kept b → Keeps b (Leave client) (leaves b client)
leaves_keeps b client h = record {
  clients = client_goes client b.clients b.tickets b.next_client h.clients;
  links = h.links;
  fresh = h.fresh;
  leases = h.leases;
  counts = counts_stay Leaving b (leaves b client).book refl refl refl h.counts;
  limits = h.limits;
}

-- ---- tickets

loses_keeps : (b : Book) (client : ℕ) (t : Ticket) (refusal : Refusal) → Kept b → Keeps b (Take client) (loses_ticket b t refusal)
loses_keeps b client t refusal h = record {
  clients = ticket_goes t.client b.clients b.tickets b.next_client h.clients;
  links = h.links;
  fresh = h.fresh;
  leases = h.leases;
  counts = counts_stay TicketLost b (loses_ticket b t refusal).book refl refl refl h.counts;
  limits = h.limits;
}

granted_clients : (b : Book) (t : Ticket) → Kept b → KeptClients (in_state Active t.client b.clients) (without_ticket t.client b.tickets) b.next_client
granted_clients b t h = state_changes Active t.client b.clients (without_ticket t.client b.tickets) b.next_client (ticket_goes t.client b.clients b.tickets b.next_client h.clients)

lends_keeps : (b : Book) (client : ℕ) (t : Ticket) (link : Link) → lendable b.fresh_from t.key b.idle ≡ Some link → Kept b → Keeps b (Take client) (lends b t link)
lends_keeps b client t link e h = record {
  clients = granted_clients b t h;
  leases = link_is_leased b.lent link b.keyed b.marked b.ended h.leases;
  links = link_is_lent b.lent b.idle b.next_link link (last_counts (λ l. same_key l.key t.key) (is_link link.number) b.idle link (lendable_is b.fresh_from t.key b.idle link e).0 (eq-eqb link.number link.number refl)) h.links;
  fresh = idle_leaves link.number b.idle b.fresh_from b.next_link h.fresh;
  counts = reuse_counts b t link h.counts;
  limits = h.limits;
}

abbrev new_link : Book → Ticket → Link
new_link b t = record { number = b.next_link; key = t.key; started_at = b.clock; since = b.clock }

starts_keeps : (b : Book) (client : ℕ) (t : Ticket) → nat_lt (link_count b) b.limits.max_links ≡ true → Kept b → Keeps b (Take client) (starts b t b.idle None)
starts_keeps b client t room h = record {
  clients = granted_clients b t h;
  leases = link_is_leased b.lent (new_link b t) b.keyed b.marked b.ended h.leases;
  links = link_starts b.lent b.idle b.next_link (new_link b t) refl (omega (arith, ltb-true _ _ room, h.limits.links)) h.links;
  fresh = number_taken b.idle b.fresh_from b.next_link h.fresh;
  counts = start_counts b t b.idle None b.evictions (omega arith) h.counts;
  limits = h.limits;
}

evicts_keeps : (b : Book) (client : ℕ) (t : Ticket) (test : Link → Bool) (o : Option Link) → find test b.idle ≡ o → Kept b → Keeps b (Take client) (evicts b t o)
evicts_keeps b client t test None e h = h
evicts_keeps b client t test (Some old) e h = record {
  clients = granted_clients b t h;
  leases = link_is_leased b.lent (new_link b t) b.keyed b.marked b.ended h.leases;
  links = link_starts b.lent (without old.number b.idle) b.next_link (new_link b t) refl (omega (arith, place_left old.number b.idle there, h.links.fit)) (idle_goes old.number b.lent b.idle b.next_link h.links);
  fresh = number_taken (without old.number b.idle) b.fresh_from b.next_link (idle_leaves old.number b.idle b.fresh_from b.next_link h.fresh);
  counts = start_counts b t (without old.number b.idle) (Some old.number) (suc b.evictions) (omega arith) h.counts;
  limits = h.limits;
}
  where
    there : 1 ≤ count_by (is_link old.number) b.idle
    there = found_counts test (is_link old.number) b.idle old e (eq-eqb old.number old.number refl)

grants_keeps : (b : Book) (client : ℕ) (t : Ticket) (o : Option Link) → lendable b.fresh_from t.key b.idle ≡ o → Kept b → Keeps b (Take client) (grants b t o)
grants_keeps b client t (Some link) e h = lends_keeps b client t link e h
grants_keeps b client t None e h =
    by_branch (Keeps b (Take client)) (nat_lt (pool_count b t.key) (pool_size b.limits t.key)) _ _
    (λ _. by_branch (Keeps b (Take client)) (nat_lt (link_count b) b.limits.max_links) _ _
    (λ room. starts_keeps b client t room h)
    (λ _. evicts_keeps b client t (λ link. true) (find (λ link. true) b.idle) refl h))
    (λ _. evicts_keeps b client t (in_pool t.key) (find (in_pool t.key) b.idle) refl h)

takes_keeps : (b : Book) (client : ℕ) (o : Option Ticket) → find (is_of client) b.tickets ≡ o → list_any (is_of client) b.tickets ≡ true → Kept b → Keeps b (Take client) (takes b o)
takes_keeps b client None e known h = absurd (true≢false (sym known ∙ not_found (is_of client) b.tickets e))
takes_keeps b client (Some t) e known h =
    by_branch (Keeps b (Take client)) b.is_shut _ _ (λ _. loses_keeps b client t ShuttingDown h)
    (λ _. by_branch (Keeps b (Take client)) (has_waited b t) _ _ (λ _. loses_keeps b client t WaitedTooLong h)
    (λ _. by_branch (Keeps b (Take client)) (b.is_paused || not (waiting_before t.key t.client b.tickets == 0)) _ _ (λ _. h)
    (λ _. grants_keeps b client t (lendable b.fresh_from t.key b.idle) refl h)))

-- ---- links

one_lent : (b : Book) (n : ℕ) → 1 ≤ count_by (is_link n) b.lent → Kept b → count_by (is_link n) b.lent ≡ 1
one_lent b n there h = omega (arith, there, h.links.once n)

gives_back_keeps : (b : Book) (n : ℕ) (o : Option Link) → find (is_link n) b.lent ≡ o → list_any (is_link n) b.lent ≡ true → Kept b → Keeps b (GiveBack n) (gives_back b o)
gives_back_keeps b n None e known h = absurd (true≢false (sym known ∙ not_found (is_link n) b.lent e))
gives_back_keeps b n (Some link) e known h =
    by_branch (Keeps b (GiveBack n)) (is_old b link || is_crowded b link) _ _
    (λ _. record {
      clients = h.clients;
      fresh = h.fresh;
      links = lent_goes link.number b.lent b.idle b.next_link h.links;
      leases = lease_goes link.number b.lent b.keyed b.marked b.ended h.leases;
      counts = return_counts b link.number b.idle (one_lent b link.number there h) h.counts;
      limits = h.limits;
    })
    (λ stays. record {
      clients = h.clients;
      fresh = fresh_returns b.idle b.fresh_from b.next_link (record link { since = b.clock }) (kept_is_fresh _ b.is_shut (is_fresh b.fresh_from link) (is_crowded b link) stays) h.fresh;
      links = link_is_idle link.number b.lent b.idle b.next_link (record link { since = b.clock }) refl there h.links;
      leases = lease_goes link.number b.lent b.keyed b.marked b.ended h.leases;
      counts = return_counts b link.number (b.idle ++ record link { since = b.clock } ∷ []) (one_lent b link.number there h) h.counts;
      limits = h.limits;
    })
  where
    there : 1 ≤ count_by (is_link link.number) b.lent
    there = found_counts (is_link n) (is_link link.number) b.lent link e (eq-eqb link.number link.number refl)

loss_keeps : (b : Book) (n : ℕ) → list_any (is_link n) b.lent ≡ true → Kept b → Keeps b (Lost n) (outcome b (Lost n))
loss_keeps b n known h = record {
  clients = h.clients;
  fresh = h.fresh;
  links = lent_goes n b.lent b.idle b.next_link h.links;
  leases = lease_goes n b.lent b.keyed b.marked b.ended h.leases;
  counts = loss_counts b n (one_lent b n (any_counts (is_link n) b.lent known) h) h.counts;
  limits = h.limits;
}

failure_keeps : (b : Book) (n : ℕ) → list_any (is_link n) b.lent ≡ true → Kept b → Keeps b (StartFailed n) (outcome b (StartFailed n))
failure_keeps b n known h = record {
  clients = h.clients;
  fresh = h.fresh;
  links = lent_goes n b.lent b.idle b.next_link h.links;
  leases = lease_goes n b.lent b.keyed b.marked b.ended h.leases;
  counts = failure_counts b n (one_lent b n (any_counts (is_link n) b.lent known) h) h.counts;
  limits = h.limits;
}

-- ---- the clock

closes_keeps : (b : Book) (now : ℕ) (o : Option Link) → Kept b → Keeps b (Tick now) (closes (at_clock b now) o)
closes_keeps b now None h = go (nat_lt b.clock now)
  where
    go : (raised : Bool) → Kept (counted (at_clock b now) (cond raised (Some Ticking) None))
    go true = record { clients = h.clients; links = h.links; fresh = h.fresh; leases = h.leases; counts = counts_stay Ticking b (at_clock b now) refl refl refl h.counts; limits = h.limits }
    go false = record { clients = h.clients; links = h.links; fresh = h.fresh; leases = h.leases; counts = record { all = h.counts.all; clients = h.counts.clients; links = h.counts.links; grants = h.counts.grants; evicted = h.counts.evicted; losses = h.counts.losses; lent = h.counts.lent }; limits = h.limits }
closes_keeps b now (Some link) h = record {
  clients = h.clients;
  fresh = idle_leaves link.number b.idle b.fresh_from b.next_link h.fresh;
  links = idle_goes link.number b.lent b.idle b.next_link h.links;
  leases = h.leases;
  counts = counts_stay Ticking b (closes (at_clock b now) (Some link)).book refl refl refl h.counts;
  limits = h.limits;
}

-- ---- a server hangs up

hangs_up_keeps : (b : Book) (n : ℕ) (o : Option Link) → Kept b → Keeps b (HungUp n) (hangs_up b o)
hangs_up_keeps b n None h = h
hangs_up_keeps b n (Some link) h = record {
  clients = h.clients;
  fresh = idle_leaves link.number b.idle b.fresh_from b.next_link h.fresh;
  links = idle_goes link.number b.lent b.idle b.next_link h.links;
  leases = h.leases;
  counts = counts_stay HangUp b (hangs_up b (Some link)).book refl refl refl h.counts;
  limits = h.limits;
}

-- ---- leases

keys_keeps : (b : Book) (n : ℕ) (client server : KeyView) → is_strange b (Keyed n client server) ≡ false → Kept b → Keeps b (Keyed n client server) (keys b n client server)
keys_keeps b n client server known h = record {
  clients = h.clients;
  links = h.links;
  fresh = h.fresh;
  leases = lease_is_keyed b.lent (record { link = n; client = client; server = server }) b.keyed b.marked b.ended (any_counts (is_link n) b.lent there.0) (none_counts (is_of_link n) b.keyed (first_false _ _ there.1)) h.leases;
  counts = counts_stay Keying b (keys b n client server).book refl refl refl h.counts;
  limits = h.limits;
}
  where
    first_false : (p q : Bool) → (p || q) ≡ false → p ≡ false
    first_false true q e = e
    first_false false q e = refl

    there : (list_any (is_link n) b.lent ≡ true) × ((list_any (is_of_link n) b.keyed || list_any (is_number n) b.ended) ≡ false)
    there = second_of _ _ known

strikes_keeps : (b : Book) (client : KeyView) (lease : Lease) (link : Link) (host : Option (List ℕ)) → find (is_link lease.link) b.lent ≡ Some link → Kept b → Keeps b (Cancel client) (strikes b lease host)
strikes_keeps b client lease link None e h = h
strikes_keeps b client lease link (Some host) e h = record {
  clients = h.clients;
  links = h.links;
  fresh = h.fresh;
  leases = link_is_marked lease.link b.lent b.keyed b.marked b.ended (any_counts (is_link lease.link) b.lent (found_any (is_link lease.link) b.lent link e)) h.leases;
  counts = counts_stay Cancelling b (record b { marked = with_number lease.link b.marked }) refl refl refl h.counts;
  limits = h.limits;
}

cancels_keeps : (b : Book) (client : KeyView) (o : Option Lease) → Kept b → Keeps b (Cancel client) (cancels b o)
cancels_keeps b client None h = h
cancels_keeps b client (Some lease) h = go (find (is_link lease.link) b.lent) refl
  where
    go : (o : Option Link) → find (is_link lease.link) b.lent ≡ o → Keeps b (Cancel client) (strikes_at b lease o)
    go None e = h
    go (Some link) e = strikes_keeps b client lease link link.key.host e h

ends_keeps : (b : Book) (n : ℕ) → list_any (is_link n) b.lent ≡ true → Kept b → Keeps b (EndLease n) (ends_lease b n)
ends_keeps b n known h = record {
  clients = h.clients;
  links = h.links;
  fresh = h.fresh;
  leases = lease_ends n b.lent b.keyed b.marked b.ended (any_counts (is_link n) b.lent known) h.leases;
  counts = counts_stay LeaseEnding b (ends_lease b n).book refl refl refl h.counts;
  limits = h.limits;
}

-- ---- what is changed for all

changes_keep : (b : Book) (change : Change) → FitsLimits (Makes change) → Kept b → Keeps b (Makes change) (outcome b (Makes change))
changes_keep b change fits h =
    with_any_settings (λ (n : Book). KeptFresh b.idle n.fresh_from b.next_link → KeptLimits n.limits → Kept (counted n (Some kind))) change b (λ limits is_paused is_shut fresh_from fresh fit. record {
      clients = h.clients;
      links = h.links;
      fresh = fresh;
      leases = h.leases;
      counts = counts_stay kind b (settled b limits is_paused is_shut fresh_from) refl (change_untold change b.counts) refl h.counts;
      limits = fit;
    }) (change_fresh b change h) (change_fits b change fits h)
  where
    kind : Kind
    kind = kind_of_change change

-- ---- each event

outcome_keeps : (b : Book) (e : Event) → FitsLimits e → is_strange b e ≡ false → Kept b → Keeps b e (outcome b e)
outcome_keeps b (Arrive beyond) fits known h = arrives_keeps b beyond h
outcome_keeps b (Ask client key) fits known h = asks_keeps b client key known h
outcome_keeps b (Take client) fits known h = takes_keeps b client (find (is_of client) b.tickets) refl (not_false _ known) h
outcome_keeps b (GiveBack n) fits known h = gives_back_keeps b n (find (is_link n) b.lent) refl (not_false _ known) h
outcome_keeps b (Lost n) fits known h = loss_keeps b n (not_false _ known) h
outcome_keeps b (StartFailed n) fits known h = failure_keeps b n (not_false _ known) h
outcome_keeps b (Leave client) fits known h = leaves_keeps b client h
outcome_keeps b (Tick now) fits known h = closes_keeps b now (find (is_stale (at_clock b now)) b.idle) h
outcome_keeps b (Makes change) fits known h = changes_keep b change fits h
outcome_keeps b (Keyed n client server) fits known h = keys_keeps b n client server known h
outcome_keeps b (Cancel client) fits known h = cancels_keeps b client (find (is_of_client client) b.keyed) h
outcome_keeps b (EndLease n) fits known h = ends_keeps b n (not_false _ known) h
outcome_keeps b (HungUp n) fits known h = hangs_up_keeps b n (find (is_link n) b.idle) h

pub applied_keeps : (b : Book) (e : Event) → FitsLimits e → Kept b → Kept (apply b e).book
unfolding apply
applied_keeps b e fits h =
    by_branch (λ (a : Answer). Kept a.book) (b.decisions == last_decision) _ _ (λ _. h)
    (λ _. by_branch (λ (a : Answer). Kept a.book) (is_strange b e) _ _ (λ _. h) (λ known. outcome_keeps b e fits known h))

pub returned_keeps : (b : Book) (n : ℕ) (key : StartKeyOf) (started_at : ℕ) → Kept b → Kept (apply_return b n key started_at).book
unfolding apply_return
returned_keeps b n key started_at h =
    by_branch (λ (a : Answer). Kept a.book) (b.decisions == last_decision) _ _ (λ _. h)
    (λ _. by_branch (λ (a : Answer). Kept a.book) (is_started_as key started_at (find (is_link n) b.lent)) _ _ (λ _. applied_keeps b (GiveBack n) tt h) (λ _. h))

pub empty_keeps : (limits : Limits) → KeptLimits limits → Kept (empty_book limits)
empty_keeps limits l = record {
  clients = record { fit = omega arith; once = λ n. omega arith; fresh = λ n k. refl; of_clients = λ n. omega arith };
  links = record { fit = omega arith; once = λ n. omega arith; fresh = λ n k. omega arith };
  fresh = record { next_too = omega arith; in_order = tt };
  leases = record { keyed = λ n. omega arith; marked = λ n. omega arith; ended = λ n. omega arith };
  counts = record { all = omega arith; clients = omega arith; links = omega arith; grants = omega arith; evicted = omega arith; losses = omega arith; lent = omega arith };
  limits = l;
}

pub latest_is_lent : LatestFreshIsLent
latest_is_lent b key h = latest_fresh b.fresh_from key b.idle h.fresh.in_order
