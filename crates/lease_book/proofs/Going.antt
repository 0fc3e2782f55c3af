-- What an event with no link does to the idle list, and that the link that goes out stands in it.
use Rattle.std.proofs.Common.{◌≡◌, ℕ, suc, ◌+◌, List, [], ◌∷◌, ◌++◌, Bool, true, false, cond, Option, None, Some, length, refl, sym, ap, ◌∙◌}
use Rattle.std.specs.Prelude.{find, not, ◌==◌, ◌||◌, nat_lt, count_by}
use Rattle.std.specs.List.{list_any}
use Rattle.std.proofs.lemmas.Bool.{eq-eqb}
use Rattle.message_view.specs.declared.refusal.Refusal.{Refusal}
use Rattle.message_view.specs.declared.refusal.Refusal.TheVariants.{TooManyClients, WaitedTooLong, ShuttingDown, LastDecision}
use Rattle.start_keys.specs.Keys.{same_key}
use Rattle.book_model.specs.Book.{Book, Lease, Link, Ticket, find_last, in_pool, lendable, link_count, or_else, places_beyond, pool_count, pool_size, is_of, is_of_client, is_link, is_number, same_pool, waiting_before, without}
use Rattle.book_model.specs.Outcomes.{Answer, Event, apply, in_state, outcome, decided, counted, is_strange, kind_of, last_decision, loses_ticket, starts, evicts, grants, hangs_up, has_waited, takes, closes, at_clock, is_stale, cancels, ends_lease, strikes, strikes_at}
use Rattle.book_model.specs.Outcomes.Event.{Arrive, Ask, Take, GiveBack, Lost, StartFailed, Leave, Tick, Makes, Keyed, Cancel, EndLease, HungUp}
use Rattle.book_model.specs.declared.counts.Kind.{Kind}
use Rattle.book_model.specs.declared.events.Reply.{Reply}
use Rattle.book_model.specs.declared.events.Reply.TheVariants.{Arrived, Queued, Refuse, Stranger, Reset, Dispose}
use Rattle.book_model.specs.declared.events.ClientState.TheVariants.{LoggingIn, Waiting}
use Rattle.book_model.proofs.Changing.{with_any_settings}
use Rattle.book_model.proofs.KeepingFresh.{lendable_is}
use Rattle.lease_book.specs.Links.{goes_out, is_return}

both : (Q : Answer → Type 0) (b : Bool) (x y : Answer) → Q x → Q y → Q (cond b x y)
both Q true x y p q = p
both Q false x y p q = q

-- the list without the link of this number
abbrev pub rest : Option ℕ → List Link → List Link
rest None links = links
rest (Some n) links = without n links

-- a link of this number is there
abbrev pub there : Option ℕ → List Link → Bool
there None links = true
there (Some n) links = list_any (is_link n) links

pub record Goes (b : Book) (a : Answer) : Type 0 where
  pub idle : a.book.idle ≡ rest (goes_out a.reply) b.idle
  pub there_is : there (goes_out a.reply) b.idle ≡ true

stays : (b : Book) (a : Answer) → a.book.idle ≡ b.idle → goes_out a.reply ≡ None → Goes b a
stays b a i n = record { idle = i ∙ sym (ap (λ (o : Option ℕ). rest o b.idle) n); there_is = ap (λ (o : Option ℕ). there o b.idle) n }

or_first : (a b : Bool) → a ≡ true → (a || b) ≡ true
or_first a b e = ap (λ x. x || b) e

or_second : (a b : Bool) → b ≡ true → (a || b) ≡ true
or_second true b e = refl
or_second false b e = e

found_there : (p : Link → Bool) (links : List Link) (l : Link) → find p links ≡ Some l → list_any (is_link l.number) links ≡ true
found_there p [] l e = cc
found_there p (x ∷ xs) l e =
    elim (p x) as (λ b. cond b (Some x) (find p xs) ≡ Some l → list_any (is_link l.number) (x ∷ xs) ≡ true) [
      | true ↦ λ h. let is : x ≡ l = cc in or_first (x.number == l.number) _ (eq-eqb x.number l.number (ap (λ (u : Link). u.number) is))
      | false ↦ λ h. or_second (x.number == l.number) _ (found_there p xs l h)
    ] e

at_first : (x : Link) (xs : List Link) (l : Link) (b : Bool) → cond b (Some x) None ≡ Some l → list_any (is_link l.number) (x ∷ xs) ≡ true
at_first x xs l true h = let is : x ≡ l = cc in or_first (x.number == l.number) _ (eq-eqb x.number l.number (ap (λ (u : Link). u.number) is))
at_first x xs l false h = cc

by_last : (x : Link) (xs : List Link) (l : Link) (b : Bool) (o : Option Link) → (o ≡ Some l → list_any (is_link l.number) xs ≡ true) → or_else o (cond b (Some x) None) ≡ Some l → list_any (is_link l.number) (x ∷ xs) ≡ true
by_last x xs l b None later h = at_first x xs l b h
by_last x xs l b (Some y) later h = or_second (x.number == l.number) _ (later h)

last_there : (p : Link → Bool) (links : List Link) (l : Link) → find_last p links ≡ Some l → list_any (is_link l.number) links ≡ true
last_there p [] l e = cc
last_there p (x ∷ xs) l e = by_last x xs l (p x) (find_last p xs) (λ h. last_there p xs l h) e

goes_evicts : (b : Book) (t : Ticket) (p : Link → Bool) (o : Option Link) → find p b.idle ≡ o → Goes b (evicts b t o)
goes_evicts b t p None is = record { idle = refl; there_is = refl }
goes_evicts b t p (Some old) is = record { idle = refl; there_is = found_there p b.idle old is }

goes_starts : (b : Book) (t : Ticket) → Goes b (starts b t b.idle None)
goes_starts b t = record { idle = refl; there_is = refl }

goes_grants : (b : Book) (t : Ticket) (o : Option Link) → lendable b.fresh_from t.key b.idle ≡ o → Goes b (grants b t o)
goes_grants b t (Some link) is = record { idle = refl; there_is = last_there (λ l. same_key l.key t.key) b.idle link (lendable_is b.fresh_from t.key b.idle link is).0 }
goes_grants b t None is =
    both (Goes b) (nat_lt (pool_count b t.key) (pool_size b.limits t.key)) _ _
    (both (Goes b) (nat_lt (link_count b) b.limits.max_links) _ _ (goes_starts b t) (goes_evicts b t (λ link. true) (find (λ link. true) b.idle) refl))
    (goes_evicts b t (in_pool t.key) (find (in_pool t.key) b.idle) refl)

goes_same : (b : Book) (r : Reply) → goes_out r ≡ None → Goes b (record { book = b; reply = r })
goes_same b r n = stays b (record { book = b; reply = r }) refl n

goes_loses : (b : Book) (t : Ticket) (r : Refusal) → Goes b (loses_ticket b t r)
goes_loses b t r = record { idle = refl; there_is = refl }

goes_takes : (b : Book) (o : Option Ticket) → Goes b (takes b o)
goes_takes b None = record { idle = refl; there_is = refl }
goes_takes b (Some t) =
    both (Goes b) b.is_shut _ _ (goes_loses b t ShuttingDown)
    (both (Goes b) (has_waited b t) _ _ (goes_loses b t WaitedTooLong)
    (both (Goes b) (b.is_paused || not (waiting_before t.key t.client b.tickets == 0)) _ _ (goes_same b (Queued (waiting_before t.key t.client b.tickets)) refl)
    (goes_grants b t (lendable b.fresh_from t.key b.idle) refl)))

goes_closes : (b : Book) (now : ℕ) (p : Link → Bool) (o : Option Link) → find p b.idle ≡ o → Goes b (closes (at_clock b now) o)
goes_closes b now p None is = record { idle = refl; there_is = refl }
goes_closes b now p (Some link) is = record { idle = refl; there_is = found_there p b.idle link is }

goes_hangs_up : (b : Book) (p : Link → Bool) (o : Option Link) → find p b.idle ≡ o → Goes b (hangs_up b o)
goes_hangs_up b p None is = record { idle = refl; there_is = refl }
goes_hangs_up b p (Some link) is = record { idle = refl; there_is = found_there p b.idle link is }

goes_strikes : (b : Book) (lease : Lease) (host : Option (List ℕ)) → Goes b (strikes b lease host)
goes_strikes b lease None = record { idle = refl; there_is = refl }
goes_strikes b lease (Some host) = record { idle = refl; there_is = refl }

goes_strikes_at : (b : Book) (lease : Lease) (o : Option Link) → Goes b (strikes_at b lease o)
goes_strikes_at b lease None = record { idle = refl; there_is = refl }
goes_strikes_at b lease (Some link) = goes_strikes b lease link.key.host

goes_cancels : (b : Book) (o : Option Lease) → Goes b (cancels b o)
goes_cancels b None = record { idle = refl; there_is = refl }
goes_cancels b (Some lease) = goes_strikes_at b lease (find (is_link lease.link) b.lent)

ends_in_place : (marked : Bool) → goes_out (cond marked Dispose Reset) ≡ None
ends_in_place true = refl
ends_in_place false = refl

goes : (b : Book) (e : Event) → is_return e ≡ false → Goes b (outcome b e)
goes b (Arrive beyond) r =
    let came : Answer = record { book = record b { clients = b.clients ++ record { number = b.next_client; state = LoggingIn } ∷ []; next_client = suc b.next_client }; reply = Arrived b.next_client } in
    both (Goes b) b.is_shut (record { book = b; reply = Refuse ShuttingDown }) (cond (nat_lt (length b.clients) (b.limits.max_clients + places_beyond beyond)) came (record { book = b; reply = Refuse TooManyClients })) (goes_same b (Refuse ShuttingDown) refl)
    (both (Goes b) (nat_lt (length b.clients) (b.limits.max_clients + places_beyond beyond)) came (record { book = b; reply = Refuse TooManyClients }) (stays b came refl refl) (goes_same b (Refuse TooManyClients) refl))
goes b (Ask c key) r =
    let asked : Answer = record { book = record b { clients = in_state Waiting c b.clients; tickets = b.tickets ++ record { client = c; key = key; since = b.clock } ∷ [] }; reply = Queued (count_by (λ t. same_pool t.key key) b.tickets) } in
    both (Goes b) b.is_shut (record { book = b; reply = Refuse ShuttingDown }) asked (goes_same b (Refuse ShuttingDown) refl) (stays b asked refl refl)
goes b (Take c) r = goes_takes b (find (is_of c) b.tickets)
goes b (GiveBack n) r = cc
goes b (Lost n) r = record { idle = refl; there_is = refl }
goes b (StartFailed n) r = record { idle = refl; there_is = refl }
goes b (Leave c) r = record { idle = refl; there_is = refl }
goes b (Tick now) r = goes_closes b now (is_stale (at_clock b now)) (find (is_stale (at_clock b now)) b.idle) refl
goes b (Makes change) r = record { idle = with_any_settings (λ x. x.idle ≡ b.idle) change b (λ limits paused shut fresh. refl); there_is = refl }
goes b (Keyed n client server) r = record { idle = refl; there_is = refl }
goes b (Cancel client) r = goes_cancels b (find (is_of_client client) b.keyed)
goes b (EndLease n) r = stays b (ends_lease b n) refl (ends_in_place (list_any (is_number n) b.marked))
goes b (HungUp n) r = goes_hangs_up b (is_link n) (find (is_link n) b.idle) refl

counted_idle : (b : Book) (k : Option Kind) → (counted b k).idle ≡ b.idle
counted_idle b None = refl
counted_idle b (Some k) = refl

goes_decided : (b : Book) (e : Event) (a : Answer) → Goes b a → Goes b (decided b e a)
goes_decided b e a g = record { idle = counted_idle a.book (kind_of b e a.reply) ∙ g.idle; there_is = g.there_is }

pub goes_apply : (b : Book) (e : Event) → is_return e ≡ false → Goes b (apply b e)
unfolding apply
goes_apply b e r =
    both (Goes b) (b.decisions == last_decision) _ _ (goes_same b (Refuse LastDecision) refl)
    (both (Goes b) (is_strange b e) _ _ (goes_same b Stranger refl) (goes_decided b e (outcome b e) (goes b e r)))
