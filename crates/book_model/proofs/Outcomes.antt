-- What each event of the book leaves.
use Rattle.std.proofs.Common.{◌≡◌, ◌≢◌, ℕ, suc, ◌+◌, Bool, true, false, cond, not, ◌&&◌, ◌||◌, List, [], ◌∷◌, ◌++◌, ◌⊎◌, inl, inr, refl, sym, ap, ◌∙◌, subst, arith, Option, Some, None, nat_lt, ◌==◌, eqb-true, length, eq-eqb, ⊎_elim, le_refl, find}
use Rattle.std.specs.List.{list_any}
use Rattle.std.proofs.lemmas.Bool.{false≢true}
use Rattle.std.proofs.lemmas.Option.{none-some, same_Some}
use Rattle.message_view.specs.declared.refusal.Refusal.{Refusal}
use Rattle.message_view.specs.declared.refusal.Refusal.TheVariants.{WaitedTooLong, ShuttingDown, LastDecision}
use Rattle.message_view.specs.declared.views.KeyView.{KeyView}
use Rattle.session_values.specs.State.{StartKeyOf}
use Rattle.start_keys.specs.Keys.{same_key}
use Rattle.start_keys.specs.SameKeys.{same_keys-one}
use Rattle.book_model.specs.Book.{Book, Lease, Link, Ticket, find_last, in_pool, is_link, is_number, is_of, is_of_client, latest_of, lendable, link_count, or_else, places_beyond, pool_count, pool_size, same_words, waiting_before, without, without_lease, without_number, without_ticket}
use Rattle.book_model.specs.declared.counts.Counts.{Counts}
use Rattle.book_model.specs.declared.counts.Kind.{Kind}
use Rattle.book_model.specs.declared.events.Beyond.{Beyond}
use Rattle.book_model.specs.declared.events.ClientState.TheVariants.{Waiting}
use Rattle.book_model.specs.declared.events.Reply.{Reply}
use Rattle.book_model.specs.Outcomes.{Answer, Change, Event, apply, apply_return, at_clock, cancels, changed, closes, counted, ends_lease, evicts, gives_back, grants, hangs_up, has_waited, in_state, is_crowded, is_old, is_stale, is_started_as, is_strange, kind_of, last_decision, loses_ticket, outcome, raised, starts, strikes, strikes_at, takes, waits}
use Rattle.book_model.specs.Outcomes.Event.{Arrive, Ask, Take, GiveBack, Lost, StartFailed, Leave, Tick, Makes, Keyed, Cancel, EndLease, HungUp}
use Rattle.book_model.specs.declared.events.Reply.TheVariants.{Arrived, Queued, Lend, Start, Close, Refuse, Done, Stranger, Strike, Nobody, Reset, Dispose}
use Rattle.book_model.specs.Laws.{AddsNothing, Drops, HasLease, HasLink, HasTicket, Keys, Lends, LendsNothing, LendsOne, MayReturn, Numbers, Queues, Releases, Starts, StartsNothing, Strikes, TakesBack}
use Rattle.book_model.specs.Laws.{PlainEventsAddNothing, ArrivalsNumber, AsksQueue, TakesLend, TakesStart, TakesEvict, ReturnsAdd, ReturnsClose, TicksClose, HangUpsClose, KeyedKeys, CancelsStrike, ResetsRelease}
use Rattle.book_model.specs.Laws.IsPlain.{turned_away, waits_no_more, lost, start_failed, leave, ticks, makes, lease_ends}
use Rattle.book_model.specs.Laws.IsPlain.{waits as waits_on}
use Rattle.book_model.proofs.Changing.{with_any_settings}
use Rattle.book_model.proofs.KeepingFresh.{lendable_is}

first_of : (a b : Bool) → (a && b) ≡ true → a ≡ true
first_of true b e = refl
first_of false b e = absurd (false≢true e)

-- ---- the lists without one entry, and with one more

without_keeps : (n m : ℕ) (key : StartKeyOf) (links : List Link) → HasLink m key (without n links) → HasLink m key links × (m ≢ n)
without_keeps n m key [] h = absurd h
without_keeps n m key (link ∷ links) h = go (link.number == n) refl h (without_keeps n m key links)
  where
    differs : (link.number == n) ≡ false → link.number ≡ m → m ≢ n
    differs e p q = absurd (false≢true (sym e ∙ eq-eqb link.number n (p ∙ q)))

    go : (b : Bool) → (link.number == n) ≡ b → HasLink m key (cond (not b) (link ∷ without n links) (without n links)) →
        (HasLink m key (without n links) → HasLink m key links × (m ≢ n)) → HasLink m key (link ∷ links) × (m ≢ n)
    go true e k ih = let r = ih k in (inr r.0, r.1)
    go false e (inl k) ih = (inl k, differs e k.0)
    go false e (inr k) ih = let r = ih k in (inr r.0, r.1)

tickets_keep : (client c : ℕ) (key : StartKeyOf) (ts : List Ticket) → HasTicket c key (without_ticket client ts) → HasTicket c key ts
tickets_keep client c key [] h = h
tickets_keep client c key (t ∷ ts) h = go (not (is_of client t)) h (tickets_keep client c key ts)
  where
    go : (b : Bool) → HasTicket c key (cond b (t ∷ without_ticket client ts) (without_ticket client ts)) → (HasTicket c key (without_ticket client ts) → HasTicket c key ts) → HasTicket c key (t ∷ ts)
    go false k ih = inr (ih k)
    go true (inl k) ih = inl k
    go true (inr k) ih = inr (ih k)

ticket_added : (c : ℕ) (key : StartKeyOf) (u : Ticket) (ts : List Ticket) → HasTicket c key (ts ++ u ∷ []) → HasTicket c key ts ⊎ ((u.client ≡ c) × (u.key ≡ key))
ticket_added c key u [] (inl h) = inr h
ticket_added c key u [] (inr h) = absurd h
ticket_added c key u (v ∷ ts) (inl h) = inl (inl h)
ticket_added c key u (v ∷ ts) (inr h) = go (ticket_added c key u ts h)
  where
    go : HasTicket c key ts ⊎ ((u.client ≡ c) × (u.key ≡ key)) → HasTicket c key (v ∷ ts) ⊎ ((u.client ≡ c) × (u.key ≡ key))
    go (inl k) = inl (inr k)
    go (inr k) = inr k

link_added : (n : ℕ) (key : StartKeyOf) (u : Link) (links : List Link) → HasLink n key (links ++ u ∷ []) → HasLink n key links ⊎ ((u.number ≡ n) × (u.key ≡ key))
link_added n key u [] (inl h) = inr h
link_added n key u [] (inr h) = absurd h
link_added n key u (v ∷ links) (inl h) = inl (inl h)
link_added n key u (v ∷ links) (inr h) = go (link_added n key u links h)
  where
    go : HasLink n key links ⊎ ((u.number ≡ n) × (u.key ≡ key)) → HasLink n key (v ∷ links) ⊎ ((u.number ≡ n) × (u.key ≡ key))
    go (inl k) = inl (inr k)
    go (inr k) = inr k

-- ---- leases, without one and with one more

leases_keep : (l n : ℕ) (client server : KeyView) (leases : List Lease) → HasLease n client server (without_lease l leases) → HasLease n client server leases × (n ≢ l)
leases_keep l n client server [] h = absurd h
leases_keep l n client server (lease ∷ leases) h = go (lease.link == l) refl h (leases_keep l n client server leases)
  where
    differs : (lease.link == l) ≡ false → lease.link ≡ n → n ≢ l
    differs e p q = absurd (false≢true (sym e ∙ eq-eqb lease.link l (p ∙ q)))

    go : (b : Bool) → (lease.link == l) ≡ b → HasLease n client server (cond (not b) (lease ∷ without_lease l leases) (without_lease l leases)) →
        (HasLease n client server (without_lease l leases) → HasLease n client server leases × (n ≢ l)) → HasLease n client server (lease ∷ leases) × (n ≢ l)
    go true e k ih = let r = ih k in (inr r.0, r.1)
    go false e (inl k) ih = (inl k, differs e k.0)
    go false e (inr k) ih = let r = ih k in (inr r.0, r.1)

lease_added : (n : ℕ) (client server : KeyView) (u : Lease) (leases : List Lease) → HasLease n client server (leases ++ u ∷ []) → HasLease n client server leases ⊎ ((u.link ≡ n) × (u.client ≡ client) × (u.server ≡ server))
lease_added n client server u [] (inl h) = inr h
lease_added n client server u [] (inr h) = absurd h
lease_added n client server u (v ∷ leases) (inl h) = inl (inl h)
lease_added n client server u (v ∷ leases) (inr h) = go (lease_added n client server u leases h)
  where
    go : HasLease n client server leases ⊎ ((u.link ≡ n) × (u.client ≡ client) × (u.server ≡ server)) → HasLease n client server (v ∷ leases) ⊎ ((u.link ≡ n) × (u.client ≡ client) × (u.server ≡ server))
    go (inl k) = inl (inr k)
    go (inr k) = inr k

-- ---- marks, without one and with one more

-- a number that isn't another's stands among the rest as among all
others_unmarked : (l n : ℕ) (marks : List ℕ) → n ≢ l → list_any (is_number n) (without_number l marks) ≡ false → list_any (is_number n) marks ≡ false
others_unmarked l n [] apart e = refl
others_unmarked l n (m ∷ marks) apart e = go (m == l) refl e (others_unmarked l n marks apart)
  where
    isnt : (m == l) ≡ true → (b : Bool) → (m == n) ≡ b → list_any (is_number n) marks ≡ false → (b || list_any (is_number n) marks) ≡ false
    isnt p true q f = absurd (apart (sym (eqb-true m n q) ∙ eqb-true m l p))
    isnt p false q f = f

    stays : (b : Bool) → (b || list_any (is_number n) (without_number l marks)) ≡ false → (list_any (is_number n) (without_number l marks) ≡ false → list_any (is_number n) marks ≡ false) → (b || list_any (is_number n) marks) ≡ false
    stays true f ih = f
    stays false f ih = ih f

    go : (b : Bool) → (m == l) ≡ b → list_any (is_number n) (cond (not b) (m ∷ without_number l marks) (without_number l marks)) ≡ false → (list_any (is_number n) (without_number l marks) ≡ false → list_any (is_number n) marks ≡ false) → ((m == n) || list_any (is_number n) marks) ≡ false
    go true p f ih = isnt p (m == n) refl (ih f)
    go false p f ih = stays (m == n) f ih

-- what isn't among them with one more isn't that one, nor was among them
unmarked_before : (l n : ℕ) (marks : List ℕ) → list_any (is_number n) (marks ++ l ∷ []) ≡ false → (list_any (is_number n) marks ≡ false) × (n ≢ l)
unmarked_before l n [] e = (refl, λ q. go (l == n) (eq-eqb l n (sym q)) e)
  where
    go : (b : Bool) → b ≡ true → (b || false) ≡ false → ⊥
    go true p f = false≢true (sym f)
    go false p f = false≢true p
unmarked_before l n (m ∷ marks) e = go (m == n) e (unmarked_before l n marks)
  where
    go : (b : Bool) → (b || list_any (is_number n) (marks ++ l ∷ [])) ≡ false → (list_any (is_number n) (marks ++ l ∷ []) ≡ false → (list_any (is_number n) marks ≡ false) × (n ≢ l)) → ((b || list_any (is_number n) marks) ≡ false) × (n ≢ l)
    go true f ih = absurd (false≢true (sym f))
    go false f ih = ih f

-- ---- what is found is there

link_there : (n : ℕ) (links : List Link) → list_any (is_link n) links ≡ true → (key : StartKeyOf) × HasLink n key links
link_there n [] e = absurd (false≢true e)
link_there n (l ∷ links) e = go (l.number == n) refl e (link_there n links)
  where
    go : (b : Bool) → (l.number == n) ≡ b → (b || list_any (is_link n) links) ≡ true → (list_any (is_link n) links ≡ true → (key : StartKeyOf) × HasLink n key links) → (key : StartKeyOf) × HasLink n key (l ∷ links)
    go true p f ih = (l.key, inl (eqb-true l.number n p, refl))
    go false p f ih = let r = ih f in (r.0, inr r.1)

same_words-one : (a b : KeyView) → same_words a b ≡ true → a ≡ b
same_words-one a b e = go (a.pid == b.pid) refl (a.secret == b.secret) refl e
  where
    go : (p : Bool) → (a.pid == b.pid) ≡ p → (q : Bool) → (a.secret == b.secret) ≡ q → (p && q) ≡ true → a ≡ b
    go true p true q f = ap (λ (pid : ℕ). record { pid = pid; secret = a.secret }) (eqb-true a.pid b.pid p) ∙ ap (λ (secret : ℕ). record { pid = b.pid; secret = secret }) (eqb-true a.secret b.secret q)
    go true p false q f = absurd (false≢true f)
    go false p true q f = absurd (false≢true f)
    go false p false q f = absurd (false≢true f)

lease_found : (client : KeyView) (leases : List Lease) (lease : Lease) → find (is_of_client client) leases ≡ Some lease → HasLease lease.link client lease.server leases
lease_found client [] lease e = absurd (none-some _ e)
lease_found client (l ∷ leases) lease e = go (same_words l.client client) refl e (lease_found client leases lease)
  where
    go : (b : Bool) → same_words l.client client ≡ b → cond b (Some l) (find (is_of_client client) leases) ≡ Some lease → (find (is_of_client client) leases ≡ Some lease → HasLease lease.link client lease.server leases) → HasLease lease.link client lease.server (l ∷ leases)
    go true q p ih = let same = same_Some _ _ p in inl (ap (λ (m : Lease). m.link) same, same_words-one l.client client q, ap (λ (m : Lease). m.server) same)
    go false q p ih = inr (ih p)

ticket_found : (client : ℕ) (ts : List Ticket) (t : Ticket) → find (is_of client) ts ≡ Some t → HasTicket client t.key ts
ticket_found client [] t e = absurd (none-some _ e)
ticket_found client (u ∷ us) t e = go (u.client == client) refl e (ticket_found client us t)
  where
    go : (b : Bool) → (u.client == client) ≡ b → cond b (Some u) (find (is_of client) us) ≡ Some t → (find (is_of client) us ≡ Some t → HasTicket client t.key us) → HasTicket client t.key (u ∷ us)
    go true q p ih = inl (eqb-true u.client client q, ap (λ (v : Ticket). v.key) (same_Some _ _ p))
    go false q p ih = inr (ih p)

record Found (test : Link → Bool) (links : List Link) (link : Link) : Type 0 where
  has : HasLink link.number link.key links
  passes : test link ≡ true

found_here : (test : Link → Bool) (l : Link) (ls : List Link) (link : Link) → test l ≡ true → l ≡ link → Found test (l ∷ ls) link
found_here test l ls link q e = record { has = inl (ap (λ (m : Link). m.number) e, ap (λ (m : Link). m.key) e); passes = sym (ap test e) ∙ q }

found_there : (test : Link → Bool) (l : Link) (ls : List Link) (link : Link) → Found test ls link → Found test (l ∷ ls) link
found_there test l ls link f = record { has = inr f.has; passes = f.passes }

first_found : (test : Link → Bool) (links : List Link) (link : Link) → find test links ≡ Some link → Found test links link
first_found test [] link e = absurd (none-some _ e)
first_found test (l ∷ ls) link e = go (test l) refl e (first_found test ls link)
  where
    go : (b : Bool) → test l ≡ b → cond b (Some l) (find test ls) ≡ Some link → (find test ls ≡ Some link → Found test ls link) → Found test (l ∷ ls) link
    go true q p ih = found_here test l ls link q (same_Some _ _ p)
    go false q p ih = found_there test l ls link (ih p)

last_found : (test : Link → Bool) (links : List Link) (link : Link) → find_last test links ≡ Some link → Found test links link
last_found test [] link e = absurd (none-some _ e)
last_found test (l ∷ ls) link e = go (find_last test ls) refl (test l) refl e (last_found test ls link)
  where
    go : (o : Option Link) → find_last test ls ≡ o → (b : Bool) → test l ≡ b → or_else o (cond b (Some l) None) ≡ Some link → (find_last test ls ≡ Some link → Found test ls link) → Found test (l ∷ ls) link
    go None q true r p ih = found_here test l ls link r (same_Some _ _ p)
    go None q false r p ih = absurd (none-some _ p)
    go (Some m) q b r p ih = found_there test l ls link (ih (q ∙ p))

latest_key : (key : StartKeyOf) (links : List Link) (link : Link) → latest_of key links ≡ Some link → link.key ≡ key
latest_key key links link e = (same_keys-one link.key key).0 (last_found (λ (l : Link). same_key l.key key) links link e).passes

latest_found : (key : StartKeyOf) (links : List Link) (link : Link) → latest_of key links ≡ Some link → HasLink link.number key links
latest_found key links link e = subst (λ (k : StartKeyOf). HasLink link.number k links) (latest_key key links link e) (last_found (λ (l : Link). same_key l.key key) links link e).has

-- ---- an event is answered as it is for what is there, or changes nothing

-- the book with another number of decisions
abbrev with_counts : Book → ℕ → Counts → Book
with_counts b d counts = record b { decisions = d; counts = counts }

by_branch : {A : Type 0} (P : A → Type 0) (d : Bool) (x y : A) → P x → P y → P (cond d x y)
by_branch P true x y h k = h
by_branch P false x y h k = k

by_known_branches : {A : Type 0} (P : A → Type 0) (d : Bool) (x y : A) → (d ≡ true → P x) → (d ≡ false → P y) → P (cond d x y)
by_known_branches P true x y h k = h refl
by_known_branches P false x y h k = k refl

counted_fits : (F : Book → Type 0) (b : Book) (kind : Option Kind) → ((d : ℕ) (counts : Counts) → F (with_counts b d counts)) → F (counted b kind)
counted_fits F b None f = f b.decisions b.counts
counted_fits F b (Some kind) f = f (suc b.decisions) (raised kind b.counts)

-- an answer fits however its decision is counted
AnswerFits : (Reply → Book → Type 0) → Answer → Type 0
AnswerFits F a = (d : ℕ) (counts : Counts) → F a.reply (with_counts a.book d counts)

applied_known : (F : Reply → Book → Type 0) (b : Book) (e : Event) → F (Refuse LastDecision) b → F Stranger b → (is_strange b e ≡ false → AnswerFits F (outcome b e)) → F (apply b e).reply (apply b e).book
unfolding apply AnswerFits
applied_known F b e h k f =
    by_branch (λ (a : Answer). F a.reply a.book) (b.decisions == last_decision) _ _ h
    (by_known_branches (λ (a : Answer). F a.reply a.book) (is_strange b e) _ _ (λ _. k) (λ known. counted_fits (F (outcome b e).reply) (outcome b e).book (kind_of b e (outcome b e).reply) (f known)))

applied : (F : Reply → Book → Type 0) (b : Book) (e : Event) → F (Refuse LastDecision) b → F Stranger b → AnswerFits F (outcome b e) → F (apply b e).reply (apply b e).book
applied F b e h k f = applied_known F b e h k (λ _. f)

-- ---- what becomes of lent links and leases

may_return : (n : ℕ) (old new : Book) → ((key : StartKeyOf) → HasLink n key new.lent → HasLink n key old.lent) → ((key : StartKeyOf) → HasLink n key new.lent → list_any (is_number n) new.marked ≡ false → list_any (is_number n) old.marked ≡ false) → MayReturn n new → MayReturn n old
may_return n old new f g m = record { key = m.key; is_lent = f m.key m.is_lent; unmarked = g m.key m.is_lent m.unmarked }

-- they stay
lends_nothing : (old new : Book) → new.lent ≡ old.lent → new.keyed ≡ old.keyed → new.marked ≡ old.marked → LendsNothing old new
lends_nothing old new l k m = record {
  lent = λ n key h. stays n key h;
  leases = λ n client server h. subst (λ (leases : List Lease). HasLease n client server leases) k h;
  may_return = λ n h. may_return n old new (stays n) (λ key _ e. subst (λ (marks : List ℕ). list_any (is_number n) marks ≡ false) m e) h;
}
  where
    stays : (n : ℕ) (key : StartKeyOf) → HasLink n key new.lent → HasLink n key old.lent
    stays n key h = subst (λ (links : List Link). HasLink n key links) l h

-- a link is lent no more
loses_link : (l : ℕ) (old new : Book) → new.lent ≡ without l old.lent → new.keyed ≡ without_lease l old.keyed → new.marked ≡ without_number l old.marked → LendsNothing old new
loses_link l old new ls ks ms = record {
  lent = λ n key h. (left n key h).0;
  leases = λ n client server h. (leases_keep l n client server old.keyed (subst (λ (leases : List Lease). HasLease n client server leases) ks h)).0;
  may_return = λ n h. may_return n old new (λ key k. (left n key k).0) (λ key k e. others_unmarked l n old.marked (left n key k).1 (subst (λ (marks : List ℕ). list_any (is_number n) marks ≡ false) ms e)) h;
}
  where
    left : (n : ℕ) (key : StartKeyOf) → HasLink n key new.lent → HasLink n key old.lent × (n ≢ l)
    left n key h = without_keeps l n key old.lent (subst (λ (links : List Link). HasLink n key links) ls h)

-- a link is lent
lends_one : (old new : Book) (link : Link) (key : StartKeyOf) → link.key ≡ key → new.lent ≡ old.lent ++ link ∷ [] → new.keyed ≡ old.keyed → new.marked ≡ old.marked → LendsOne old link.number key new
lends_one old new link key e l k m = record {
  lent = λ n other h. ⊎_elim (λ q. inl q) (λ q. inr (q.0, sym e ∙ q.1)) (added n other h);
  leases = λ n client server h. subst (λ (leases : List Lease). HasLease n client server leases) k h;
  may_return = λ n h. ⊎_elim (λ q. inl (record { key = h.key; is_lent = q; unmarked = subst (λ (marks : List ℕ). list_any (is_number n) marks ≡ false) m h.unmarked })) (λ q. inr q.0) (added n h.key h.is_lent);
}
  where
    added : (n : ℕ) (other : StartKeyOf) → HasLink n other new.lent → HasLink n other old.lent ⊎ ((link.number ≡ n) × (link.key ≡ other))
    added n other h = link_added n other link old.lent (subst (λ (links : List Link). HasLink n other links) l h)

nothing_new : (b : Book) (d : ℕ) (counts : Counts) → AddsNothing b (with_counts b d counts)
nothing_new b d counts = record { next_client = le_refl b.next_client; idle = λ n key h. h; tickets = λ c key h. h }

nothing_started : (b : Book) (d : ℕ) (counts : Counts) → StartsNothing b (with_counts b d counts)
nothing_started b d counts = record { adds_nothing = nothing_new b d counts; next_link = refl; lends_nothing = lends_nothing b (with_counts b d counts) refl refl refl }

unchanged : (b : Book) → StartsNothing b b
unchanged b = nothing_started b b.decisions b.counts

-- ---- a Take

DropsAny : Book → Option ℕ → Book → Type 0
DropsAny old None new = Unit {0}
DropsAny old (Some l) new = Drops old l new

TakeFits : Book → ℕ → Reply → Book → Type 0
TakeFits old c (Lend l) new = Lends old c l new
TakeFits old c (Start l started_at evicted) new = Starts old c l new × DropsAny old evicted new
TakeFits old c (Arrived n) new = StartsNothing old new
TakeFits old c (Queued n) new = StartsNothing old new
TakeFits old c (Close n) new = StartsNothing old new
TakeFits old c (Refuse n) new = StartsNothing old new
TakeFits old c Done new = StartsNothing old new
TakeFits old c Stranger new = StartsNothing old new
TakeFits old c (Strike n server) new = StartsNothing old new
TakeFits old c Nobody new = StartsNothing old new
TakeFits old c Reset new = StartsNothing old new
TakeFits old c Dispose new = StartsNothing old new

waits_ok : (b : Book) (c : ℕ) (t : Ticket) → AnswerFits (TakeFits b c) (waits b t)
unfolding AnswerFits TakeFits
waits_ok b c t = λ d counts. nothing_started b d counts

loses_ok : (b : Book) (c : ℕ) (t : Ticket) (refusal : Refusal) → AnswerFits (TakeFits b c) (loses_ticket b t refusal)
unfolding AnswerFits TakeFits
loses_ok b c t refusal = λ d counts. record { adds_nothing = record { next_client = le_refl b.next_client; idle = λ n key h. h; tickets = λ u key h. tickets_keep t.client u key b.tickets h }; next_link = refl; lends_nothing = lends_nothing b _ refl refl refl }

-- the link that is started for a ticket
abbrev started : Book → Ticket → Link
started b t = record { number = b.next_link; key = t.key; started_at = b.clock; since = b.clock }

starts_ok : (b : Book) (c : ℕ) (t : Ticket) → HasTicket c t.key b.tickets → AnswerFits (TakeFits b c) (starts b t b.idle None)
unfolding AnswerFits TakeFits DropsAny
starts_ok b c t h = λ d counts. (
  record {
    key = t.key;
    has_ticket = h;
    number = refl;
    next_link = refl;
    adds_nothing = record { next_client = le_refl b.next_client; idle = λ n key h. h; tickets = λ u key h. tickets_keep t.client u key b.tickets h };
    lends_one = lends_one b _ (started b t) t.key refl refl refl refl;
  },
  tt,
)

evicts_ok : (b : Book) (c : ℕ) (t : Ticket) (test : Link → Bool) (o : Option Link) → HasTicket c t.key b.tickets → find test b.idle ≡ o → AnswerFits (TakeFits b c) (evicts b t o)
unfolding AnswerFits TakeFits DropsAny
evicts_ok b c t test None h e = λ d counts. nothing_started b d counts
evicts_ok b c t test (Some old) h e = λ d counts. (
  record {
    key = t.key;
    has_ticket = h;
    number = refl;
    next_link = refl;
    adds_nothing = record { next_client = le_refl b.next_client; idle = λ n key k. (without_keeps old.number n key b.idle k).0; tickets = λ u key h. tickets_keep t.client u key b.tickets h };
    lends_one = lends_one b _ (started b t) t.key refl refl refl refl;
  },
  record { key = old.key; was_idle = (first_found test b.idle old e).has; not_idle = λ n key k. (without_keeps old.number n key b.idle k).1 },
)

grants_ok : (b : Book) (c : ℕ) (t : Ticket) (o : Option Link) → HasTicket c t.key b.tickets → lendable b.fresh_from t.key b.idle ≡ o → AnswerFits (TakeFits b c) (grants b t o)
unfolding AnswerFits TakeFits
grants_ok b c t None h e =
    by_branch (λ (a : Answer). AnswerFits (TakeFits b c) a) (nat_lt (pool_count b t.key) (pool_size b.limits t.key)) _ _
    (by_branch (λ (a : Answer). AnswerFits (TakeFits b c) a) (nat_lt (link_count b) b.limits.max_links) _ _ (starts_ok b c t h) (evicts_ok b c t (λ link. true) (find (λ link. true) b.idle) h refl))
    (evicts_ok b c t (in_pool t.key) (find (in_pool t.key) b.idle) h refl)
grants_ok b c t (Some link) h e = λ d counts. record {
  key = t.key;
  has_ticket = h;
  was_idle = latest_found t.key b.idle link (lendable_is b.fresh_from t.key b.idle link e).0;
  not_idle = λ n key k. (without_keeps link.number n key b.idle k).1;
  adds_nothing = record { next_client = le_refl b.next_client; idle = λ n key k. (without_keeps link.number n key b.idle k).0; tickets = λ u key k. tickets_keep t.client u key b.tickets k };
  next_link = refl;
  lends_one = lends_one b _ link t.key (latest_key t.key b.idle link (lendable_is b.fresh_from t.key b.idle link e).0) refl refl refl;
}

takes_ok : (b : Book) (c : ℕ) (o : Option Ticket) → find (is_of c) b.tickets ≡ o → AnswerFits (TakeFits b c) (takes b o)
unfolding AnswerFits TakeFits
takes_ok b c None e = λ d counts. nothing_started b d counts
takes_ok b c (Some t) e =
    by_branch (λ (a : Answer). AnswerFits (TakeFits b c) a) b.is_shut _ _ (loses_ok b c t ShuttingDown)
    (by_branch (λ (a : Answer). AnswerFits (TakeFits b c) a) (has_waited b t) _ _ (loses_ok b c t WaitedTooLong)
    (by_branch (λ (a : Answer). AnswerFits (TakeFits b c) a) (b.is_paused || not (waiting_before t.key t.client b.tickets == 0)) _ _ (waits_ok b c t)
    (grants_ok b c t (lendable b.fresh_from t.key b.idle) (ticket_found c b.tickets t e) refl)))

take_event : (b : Book) (c : ℕ) → TakeFits b c (apply b (Take c)).reply (apply b (Take c)).book
unfolding TakeFits
take_event b c = applied (TakeFits b c) b (Take c) (unchanged b) (unchanged b) (takes_ok b c (find (is_of c) b.tickets) refl)

take_of : (b : Book) (c : ℕ) (r : Reply) → (apply b (Take c)).reply ≡ r → TakeFits b c r (apply b (Take c)).book
take_of b c r e = subst (λ (s : Reply). TakeFits b c s (apply b (Take c)).book) e (take_event b c)

pub takes_lend : TakesLend
unfolding TakeFits
takes_lend b c l e = take_of b c (Lend l) e

pub takes_start : TakesStart
unfolding TakeFits
takes_start b c l started_at e = (take_of b c (Start l started_at None) e).0

pub takes_evict : TakesEvict
unfolding TakeFits DropsAny
takes_evict b c l started_at old e = take_of b c (Start l started_at (Some old)) e

-- ---- an Ask

pub asks_queue : AsksQueue
unfolding AnswerFits
asks_queue b c key = applied (λ r new. Queues b c key new) b (Ask c key) (same b.decisions b.counts) (same b.decisions b.counts)
    (by_branch (λ (a : Answer). AnswerFits (λ r new. Queues b c key new) a) b.is_shut _ _ same added)
  where
    same : (d : ℕ) (counts : Counts) → Queues b c key (with_counts b d counts)
    same d counts = record { idle = λ n k h. h; tickets = λ u k h. inl h; next_client = refl; next_link = refl; lends_nothing = lends_nothing b (with_counts b d counts) refl refl refl }

    added : (d : ℕ) (counts : Counts) → Queues b c key (with_counts (record b { clients = in_state Waiting c b.clients; tickets = b.tickets ++ record { client = c; key = key; since = b.clock } ∷ [] }) d counts)
    added d counts = record {
      idle = λ n k h. h;
      tickets = λ u k h. ticket_added u k (record { client = c; key = key; since = b.clock }) b.tickets h;
      next_client = refl;
      next_link = refl;
      lends_nothing = lends_nothing b _ refl refl refl;
    }

-- ---- a return

BackFits : Book → ℕ → StartKeyOf → Reply → Book → Type 0
BackFits old l key Done new = TakesBack old l key new
BackFits old l key (Close n) new = StartsNothing old new
BackFits old l key (Lend n) new = Unit {0}
BackFits old l key (Start n started_at evicted) new = Unit {0}
BackFits old l key (Arrived n) new = Unit {0}
BackFits old l key (Queued n) new = Unit {0}
BackFits old l key (Refuse n) new = Unit {0}
BackFits old l key Stranger new = Unit {0}
BackFits old l key (Strike n server) new = Unit {0}
BackFits old l key Nobody new = Unit {0}
BackFits old l key Reset new = Unit {0}
BackFits old l key Dispose new = Unit {0}

back_ok : (b : Book) (l : ℕ) (key : StartKeyOf) (o : Option Link) → find (is_link l) b.lent ≡ o → (started_at : ℕ) → is_started_as key started_at o ≡ true → AnswerFits (BackFits b l key) (gives_back b o)
unfolding BackFits AnswerFits
back_ok b l key None e started_at s = λ d counts. tt
back_ok b l key (Some link) e started_at s =
    by_branch (λ (a : Answer). AnswerFits (BackFits b l key) a) (is_old b link || is_crowded b link) _ _
    (λ d counts. record { adds_nothing = record { next_client = le_refl b.next_client; idle = λ n k h. h; tickets = λ u k h. h }; next_link = refl; lends_nothing = loses_link link.number b _ refl refl refl })
    (λ d counts. record {
      idle = λ n k h. ⊎_elim (λ q. inl q) (λ q. inr (sym number ∙ q.0, sym key_is ∙ q.1)) (link_added n k (record link { since = b.clock }) b.idle h);
      tickets = λ u k h. h;
      next_client = refl;
      next_link = refl;
      lends_nothing = loses_link link.number b _ refl refl refl;
      not_lent = λ k h. (without_keeps link.number l k b.lent h).1 (sym number);
    })
  where
    number : link.number ≡ l
    number = eqb-true link.number l (first_found (is_link l) b.lent link e).passes

    key_is : link.key ≡ key
    key_is = (same_keys-one link.key key).0 (first_of (same_key link.key key) (link.started_at == started_at) s)

back_event : (b : Book) (l : ℕ) (key : StartKeyOf) (started_at : ℕ) → BackFits b l key (apply_return b l key started_at).reply (apply_return b l key started_at).book
unfolding BackFits apply_return
back_event b l key started_at =
    by_branch (λ (a : Answer). BackFits b l key a.reply a.book) (b.decisions == last_decision) _ _ tt
    (by_known_branches (λ (a : Answer). BackFits b l key a.reply a.book) (is_started_as key started_at (find (is_link l) b.lent)) _ _
    (λ s. applied (BackFits b l key) b (GiveBack l) tt tt (back_ok b l key (find (is_link l) b.lent) refl started_at s)) (λ _. tt))

back_of : (b : Book) (l : ℕ) (key : StartKeyOf) (started_at : ℕ) (r : Reply) → (apply_return b l key started_at).reply ≡ r → BackFits b l key r (apply_return b l key started_at).book
back_of b l key started_at r e = subst (λ (s : Reply). BackFits b l key s (apply_return b l key started_at).book) e (back_event b l key started_at)

pub returns_add : ReturnsAdd
unfolding BackFits
returns_add b l key started_at e = back_of b l key started_at Done e

pub returns_close : ReturnsClose
unfolding BackFits
returns_close b l n key started_at e = back_of b l key started_at (Close n) e

-- ---- the clock

TickFits : Book → Reply → Book → Type 0
TickFits old (Close n) new = StartsNothing old new × Drops old n new
TickFits old Done new = StartsNothing old new
TickFits old (Lend n) new = Unit {0}
TickFits old (Start n started_at evicted) new = Unit {0}
TickFits old (Arrived n) new = Unit {0}
TickFits old (Queued n) new = Unit {0}
TickFits old (Refuse n) new = Unit {0}
TickFits old Stranger new = Unit {0}
TickFits old (Strike n server) new = Unit {0}
TickFits old Nobody new = Unit {0}
TickFits old Reset new = Unit {0}
TickFits old Dispose new = Unit {0}

tick_ok : (b : Book) (now : ℕ) (o : Option Link) → find (is_stale (at_clock b now)) b.idle ≡ o → AnswerFits (TickFits b) (closes (at_clock b now) o)
unfolding TickFits AnswerFits
tick_ok b now None e = λ d counts. record { adds_nothing = record { next_client = le_refl b.next_client; idle = λ n k h. h; tickets = λ u k h. h }; next_link = refl; lends_nothing = lends_nothing b _ refl refl refl }
tick_ok b now (Some link) e = λ d counts. (
  record { adds_nothing = record { next_client = le_refl b.next_client; idle = λ n k h. (without_keeps link.number n k b.idle h).0; tickets = λ u k h. h }; next_link = refl; lends_nothing = lends_nothing b _ refl refl refl },
  record { key = link.key; was_idle = (first_found (is_stale (at_clock b now)) b.idle link e).has; not_idle = λ n k h. (without_keeps link.number n k b.idle h).1 },
)

tick_event : (b : Book) (now : ℕ) → TickFits b (apply b (Tick now)).reply (apply b (Tick now)).book
unfolding TickFits
tick_event b now = applied (TickFits b) b (Tick now) tt tt (tick_ok b now (find (is_stale (at_clock b now)) b.idle) refl)

tick_of : (b : Book) (now : ℕ) (r : Reply) → (apply b (Tick now)).reply ≡ r → TickFits b r (apply b (Tick now)).book
tick_of b now r e = subst (λ (s : Reply). TickFits b s (apply b (Tick now)).book) e (tick_event b now)

pub ticks_close : TicksClose
unfolding TickFits
ticks_close b now n e = tick_of b now (Close n) e

-- ---- a HungUp

HangUpFits : Book → ℕ → Reply → Book → Type 0
HangUpFits old l (Close n) new = (n ≡ l) × StartsNothing old new × Drops old n new
HangUpFits old l _ new = Unit {0}

hangs_up_ok : (b : Book) (l : ℕ) (o : Option Link) → find (is_link l) b.idle ≡ o → AnswerFits (HangUpFits b l) (hangs_up b o)
unfolding HangUpFits AnswerFits
hangs_up_ok b l None e = λ d counts. tt
hangs_up_ok b l (Some link) e = λ d counts. (
  eqb-true link.number l f.passes,
  record { adds_nothing = record { next_client = le_refl b.next_client; idle = λ n k h. (without_keeps link.number n k b.idle h).0; tickets = λ u k h. h }; next_link = refl; lends_nothing = lends_nothing b _ refl refl refl },
  record { key = link.key; was_idle = f.has; not_idle = λ n k h. (without_keeps link.number n k b.idle h).1 },
)
  where
    f : Found (is_link l) b.idle link
    f = first_found (is_link l) b.idle link e

hang_up_event : (b : Book) (l : ℕ) → HangUpFits b l (apply b (HungUp l)).reply (apply b (HungUp l)).book
unfolding HangUpFits
hang_up_event b l = applied (HangUpFits b l) b (HungUp l) tt tt (hangs_up_ok b l (find (is_link l) b.idle) refl)

pub hang_ups_close : HangUpsClose
unfolding HangUpFits
hang_ups_close b l n e = subst (λ (s : Reply). HangUpFits b l s (apply b (HungUp l)).book) e (hang_up_event b l)

-- ---- an Arrive

ArriveFits : Book → Reply → Book → Type 0
ArriveFits old (Arrived n) new = Numbers old n new
ArriveFits old (Refuse n) new = StartsNothing old new
ArriveFits old Done new = Unit {0}
ArriveFits old (Lend n) new = Unit {0}
ArriveFits old (Start n started_at evicted) new = Unit {0}
ArriveFits old (Close n) new = Unit {0}
ArriveFits old (Queued n) new = Unit {0}
ArriveFits old Stranger new = Unit {0}
ArriveFits old (Strike n server) new = Unit {0}
ArriveFits old Nobody new = Unit {0}
ArriveFits old Reset new = Unit {0}
ArriveFits old Dispose new = Unit {0}

arrive_event : (b : Book) (beyond : Beyond) → ArriveFits b (apply b (Arrive beyond)).reply (apply b (Arrive beyond)).book
unfolding ArriveFits AnswerFits
arrive_event b beyond = applied (ArriveFits b) b (Arrive beyond) (unchanged b) tt
    (by_branch (λ (a : Answer). AnswerFits (ArriveFits b) a) b.is_shut _ _ (λ d counts. nothing_started b d counts)
    (by_branch (λ (a : Answer). AnswerFits (ArriveFits b) a) (nat_lt (length b.clients) (b.limits.max_clients + places_beyond beyond)) _ _
    (λ d counts. record { number = refl; next_client = refl; starts_nothing = record { adds_nothing = record { next_client = omega arith; idle = λ n key h. h; tickets = λ u key h. h }; next_link = refl; lends_nothing = lends_nothing b _ refl refl refl } })
    (λ d counts. nothing_started b d counts)))

arrive_of : (b : Book) (beyond : Beyond) (r : Reply) → (apply b (Arrive beyond)).reply ≡ r → ArriveFits b r (apply b (Arrive beyond)).book
arrive_of b beyond r e = subst (λ (s : Reply). ArriveFits b s (apply b (Arrive beyond)).book) e (arrive_event b beyond)

pub arrivals_number : ArrivalsNumber
unfolding ArriveFits
arrivals_number b beyond n e = arrive_of b beyond (Arrived n) e

-- ---- a Keyed

KeyedFits : Book → ℕ → KeyView → KeyView → Reply → Book → Type 0
KeyedFits old l client server Done new = Keys old l client server new
KeyedFits old l client server _ new = Unit {0}

keyed_ok : (b : Book) (l : ℕ) (client server : KeyView) → is_strange b (Keyed l client server) ≡ false → AnswerFits (KeyedFits b l client server) (outcome b (Keyed l client server))
unfolding KeyedFits AnswerFits
keyed_ok b l client server known = λ d counts. record {
  key = there.0;
  is_lent = there.1;
  adds_nothing = record { next_client = le_refl b.next_client; idle = λ n k h. h; tickets = λ u k h. h };
  next_link = refl;
  lent = λ n k h. h;
  leases = λ n c s h. lease_added n c s (record { link = l; client = client; server = server }) b.keyed h;
  may_return = λ n h. may_return n b _ (λ k q. q) (λ k q e. e) h;
}
  where
    is_known : (p q : Bool) → (not p || q) ≡ false → p ≡ true
    is_known true q e = refl
    is_known false q e = absurd (false≢true (sym e))

    there : (key : StartKeyOf) × HasLink l key b.lent
    there = link_there l b.lent (is_known (list_any (is_link l) b.lent) _ known)

keyed_event : (b : Book) (l : ℕ) (client server : KeyView) → KeyedFits b l client server (apply b (Keyed l client server)).reply (apply b (Keyed l client server)).book
unfolding KeyedFits
keyed_event b l client server = applied_known (KeyedFits b l client server) b (Keyed l client server) tt tt (keyed_ok b l client server)

pub keyed_keys : KeyedKeys
unfolding KeyedFits
keyed_keys b l client server e = subst (λ (s : Reply). KeyedFits b l client server s (apply b (Keyed l client server)).book) e (keyed_event b l client server)

-- ---- a Cancel

CancelFits : Book → KeyView → Reply → Book → Type 0
CancelFits old client (Strike l server) new = Strikes old client l server new
CancelFits old client _ new = Unit {0}

marks_link : (l : ℕ) (old new : Book) → new.lent ≡ old.lent → new.keyed ≡ old.keyed → new.marked ≡ without_number l old.marked ++ l ∷ [] → LendsNothing old new × (MayReturn l new → ⊥)
marks_link l old new ls ks ms = (
  record {
    lent = λ n key h. stays n key h;
    leases = λ n client server h. subst (λ (leases : List Lease). HasLease n client server leases) ks h;
    may_return = λ n h. may_return n old new (stays n) (λ key k e. let u = unmarked n e in others_unmarked l n old.marked u.1 u.0) h;
  },
  λ h. (unmarked l h.unmarked).1 refl,
)
  where
    stays : (n : ℕ) (key : StartKeyOf) → HasLink n key new.lent → HasLink n key old.lent
    stays n key h = subst (λ (links : List Link). HasLink n key links) ls h

    unmarked : (n : ℕ) → list_any (is_number n) new.marked ≡ false → (list_any (is_number n) (without_number l old.marked) ≡ false) × (n ≢ l)
    unmarked n e = unmarked_before l n (without_number l old.marked) (subst (λ (marks : List ℕ). list_any (is_number n) marks ≡ false) ms e)

strikes_ok : (b : Book) (client : KeyView) (lease : Lease) (link : Link) (host : Option (List ℕ)) → HasLease lease.link client lease.server b.keyed → HasLink lease.link link.key b.lent → link.key.host ≡ host → AnswerFits (CancelFits b client) (strikes b lease host)
unfolding CancelFits AnswerFits
strikes_ok b client lease link None has lent e = λ d counts. tt
strikes_ok b client lease link (Some at) has lent e = λ d counts. let marks = marks_link lease.link b _ refl refl refl in record {
  lease = has;
  key = link.key;
  is_lent = lent;
  host = at;
  host_is = e;
  starts_nothing = record { adds_nothing = record { next_client = le_refl b.next_client; idle = λ n k h. h; tickets = λ u k h. h }; next_link = refl; lends_nothing = marks.0 };
  marks = marks.1;
}

strikes_at_ok : (b : Book) (client : KeyView) (lease : Lease) (o : Option Link) → HasLease lease.link client lease.server b.keyed → find (is_link lease.link) b.lent ≡ o → AnswerFits (CancelFits b client) (strikes_at b lease o)
unfolding CancelFits AnswerFits
strikes_at_ok b client lease None has e = λ d counts. tt
strikes_at_ok b client lease (Some link) has e = strikes_ok b client lease link link.key.host has lent refl
  where
    lent : HasLink lease.link link.key b.lent
    lent = let f = first_found (is_link lease.link) b.lent link e in subst (λ (n : ℕ). HasLink n link.key b.lent) (eqb-true link.number lease.link f.passes) f.has

cancels_ok : (b : Book) (client : KeyView) (o : Option Lease) → find (is_of_client client) b.keyed ≡ o → AnswerFits (CancelFits b client) (cancels b o)
unfolding CancelFits AnswerFits
cancels_ok b client None e = λ d counts. tt
cancels_ok b client (Some lease) e = strikes_at_ok b client lease (find (is_link lease.link) b.lent) (lease_found client b.keyed lease e) refl

cancel_event : (b : Book) (client : KeyView) → CancelFits b client (apply b (Cancel client)).reply (apply b (Cancel client)).book
unfolding CancelFits
cancel_event b client = applied (CancelFits b client) b (Cancel client) tt tt (cancels_ok b client (find (is_of_client client) b.keyed) refl)

pub cancels_strike : CancelsStrike
unfolding CancelFits
cancels_strike b client l server e = subst (λ (s : Reply). CancelFits b client s (apply b (Cancel client)).book) e (cancel_event b client)

-- ---- an EndLease

ends_nothing : (b : Book) (l : ℕ) (d : ℕ) (counts : Counts) → StartsNothing b (with_counts (ends_lease b l).book d counts)
ends_nothing b l d counts = record {
  adds_nothing = record { next_client = le_refl b.next_client; idle = λ n k h. h; tickets = λ u k h. h };
  next_link = refl;
  lends_nothing = record { lent = λ n k h. h; leases = λ n c s h. (leases_keep l n c s b.keyed h).0; may_return = λ n h. may_return n b _ (λ k q. q) (λ k q e. e) h };
}

EndFits : Book → ℕ → Reply → Book → Type 0
EndFits old l Reset new = Releases old l new
EndFits old l _ new = Unit {0}

ends_ok : (b : Book) (l : ℕ) → is_strange b (EndLease l) ≡ false → AnswerFits (EndFits b l) (ends_lease b l)
unfolding EndFits AnswerFits
ends_ok b l known = λ d counts. go d counts (list_any (is_number l) b.marked) refl
  where
    is_known : (p : Bool) → not p ≡ false → p ≡ true
    is_known true e = refl
    is_known false e = absurd (false≢true (sym e))

    there : (key : StartKeyOf) × HasLink l key b.lent
    there = link_there l b.lent (is_known (list_any (is_link l) b.lent) known)

    go : (d : ℕ) (counts : Counts) (marked : Bool) → list_any (is_number l) b.marked ≡ marked → EndFits b l (cond marked Dispose Reset) (with_counts (ends_lease b l).book d counts)
    go d counts true e = tt
    go d counts false e = record {
      could_return = record { key = there.0; is_lent = there.1; unmarked = e };
      starts_nothing = ends_nothing b l d counts;
      no_lease = λ client server h. (leases_keep l l client server b.keyed h).1 refl;
    }

end_event : (b : Book) (l : ℕ) → EndFits b l (apply b (EndLease l)).reply (apply b (EndLease l)).book
unfolding EndFits
end_event b l = applied_known (EndFits b l) b (EndLease l) tt tt (ends_ok b l)

pub resets_release : ResetsRelease
unfolding EndFits
resets_release b l e = subst (λ (s : Reply). EndFits b l s (apply b (EndLease l)).book) e (end_event b l)

-- ---- the other events

changes_little : (b : Book) (e : Event) → AnswerFits (λ r new. StartsNothing b new) (outcome b e) → StartsNothing b (apply b e).book
changes_little b e h = applied (λ r new. StartsNothing b new) b e (unchanged b) (unchanged b) h

changes_nothing : (b : Book) (change : Change) (d : ℕ) (counts : Counts) → StartsNothing b (with_counts (changed change b) d counts)
changes_nothing b change d counts = with_any_settings (λ (n : Book). StartsNothing b (with_counts n d counts)) change b
    (λ limits is_paused is_shut fresh_from. record { adds_nothing = record { next_client = le_refl b.next_client; idle = λ m key h. h; tickets = λ u key h. h }; next_link = refl; lends_nothing = lends_nothing b _ refl refl refl })

pub plain_events_add_nothing : PlainEventsAddNothing
unfolding TakeFits TickFits ArriveFits AnswerFits
plain_events_add_nothing b (Arrive beyond) _ (turned_away {refusal = n}) q = arrive_of b beyond (Refuse n) q
plain_events_add_nothing b (Take c) _ (waits_on {before = n}) q = take_of b c (Queued n) q
plain_events_add_nothing b (Take c) _ (waits_no_more {refusal = n}) q = take_of b c (Refuse n) q
plain_events_add_nothing b (Tick now) _ ticks q = tick_of b now Done q
plain_events_add_nothing b (Lost n) r lost q = changes_little b (Lost n) (λ d counts. record { adds_nothing = record { next_client = le_refl b.next_client; idle = λ m key h. h; tickets = λ u key h. h }; next_link = refl; lends_nothing = loses_link n b _ refl refl refl })
plain_events_add_nothing b (StartFailed n) r start_failed q = changes_little b (StartFailed n) (λ d counts. record { adds_nothing = record { next_client = le_refl b.next_client; idle = λ m key h. h; tickets = λ u key h. h }; next_link = refl; lends_nothing = loses_link n b _ refl refl refl })
plain_events_add_nothing b (Leave c) r leave q = changes_little b (Leave c) (λ d counts. record { adds_nothing = record { next_client = le_refl b.next_client; idle = λ m key h. h; tickets = λ u key h. tickets_keep c u key b.tickets h }; next_link = refl; lends_nothing = lends_nothing b _ refl refl refl })
plain_events_add_nothing b (Makes change) r makes q = changes_little b (Makes change) (λ d counts. changes_nothing b change d counts)
plain_events_add_nothing b (EndLease n) r lease_ends q = changes_little b (EndLease n) (λ d counts. ends_nothing b n d counts)
plain_events_add_nothing b (Keyed n client server) r p q = elim p [ ]
plain_events_add_nothing b (Cancel client) r p q = elim p [ ]
plain_events_add_nothing b (HungUp n) r p q = elim p [ ]
plain_events_add_nothing b (Ask c key) r p q = elim p [ ]
plain_events_add_nothing b (GiveBack n) r p q = elim p [ ]
