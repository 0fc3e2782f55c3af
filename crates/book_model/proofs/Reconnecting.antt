-- Behind a Reconnect no link that was there is lent again.
use Rattle.std.proofs.Common.{◌≡◌, ℕ, ◌≤◌, Bool, true, false, cond, not, ◌||◌, ◌==◌, nat_lt, length, List, [], ◌∷◌, find, Option, None, Some, refl, sym, ap, ◌∙◌, subst, arith, le_refl, le_trans, le_of_eq, eqb-true}
use Rattle.std.proofs.lemmas.Bool.{leb-true}
use Rattle.std.proofs.lemmas.Option.{none-some, same_Some}
use Rattle.message_view.specs.declared.refusal.Refusal.TheVariants.{LastDecision}
use Rattle.session_values.specs.State.{StartKeyOf}
use Rattle.book_model.specs.Book.{Book, Lease, Link, Ticket, in_pool, is_fresh, is_link, is_of, is_of_client, lendable, link_count, pool_count, pool_size, waiting_before}
use Rattle.book_model.specs.Kept.{Kept}
use Rattle.book_model.specs.Outcomes.{Answer, Change, Event, apply, apply_return, at_clock, cancels, changed, closes, counted, decided, evicts, gives_back, grants, hangs_up, has_waited, is_crowded, is_old, is_stale, is_started_as, is_strange, kind_of, last_decision, outcome, strikes, strikes_at, takes}
use Rattle.book_model.specs.Outcomes.Change.{Reconnect}
use Rattle.book_model.specs.Outcomes.Event.{Arrive, Ask, Take, GiveBack, Lost, StartFailed, Leave, Tick, Makes, Keyed, Cancel, EndLease, HungUp}
use Rattle.book_model.specs.Reconnects.{AllFit, NeverKeptAgain, NeverLentAgain, after}
use Rattle.book_model.specs.declared.counts.Kind.{Kind}
use Rattle.book_model.specs.declared.events.Reply.TheVariants.{Lend, Refuse, Done}
use Rattle.book_model.proofs.Keeping.{applied_keeps}
use Rattle.book_model.proofs.KeepingFresh.{kept_is_fresh, lendable_is}

both : {A : Type 0} (P : A → Type 0) (d : Bool) (x y : A) → P x → P y → P (cond d x y)
both P true x y h k = h
both P false x y h k = k

by_branch : {A : Type 0} (P : A → Type 0) (d : Bool) (x y : A) → (d ≡ true → P x) → (d ≡ false → P y) → P (cond d x y)
by_branch P true x y h k = h refl
by_branch P false x y h k = k refl

-- ---- only fresh links are lent

abbrev LendsFresh : Book → Answer → Type 0
LendsFresh b a = (link : ℕ) → a.reply ≡ Lend link → b.fresh_from ≤ link

evicts_none : (b : Book) (t : Ticket) (o : Option Link) → LendsFresh b (evicts b t o)
evicts_none b t None link e = absurd (cc)
evicts_none b t (Some old) link e = absurd (cc)

lent_number : (m n : ℕ) → Lend m ≡ Lend n → m ≡ n
lent_number m n e = cc

grants_fresh : (b : Book) (t : Ticket) (o : Option Link) → lendable b.fresh_from t.key b.idle ≡ o → LendsFresh b (grants b t o)
grants_fresh b t (Some l) e = λ link f. subst (λ (n : ℕ). b.fresh_from ≤ n) (lent_number l.number link f) (leb-true b.fresh_from l.number (lendable_is b.fresh_from t.key b.idle l e).1)
grants_fresh b t None e =
    both (LendsFresh b) (nat_lt (pool_count b t.key) (pool_size b.limits t.key)) _ _
    (both (LendsFresh b) (nat_lt (link_count b) b.limits.max_links) _ _ (λ link f. absurd (cc)) (evicts_none b t (find (λ link. true) b.idle)))
    (evicts_none b t (find (in_pool t.key) b.idle))

takes_fresh : (b : Book) (o : Option Ticket) → LendsFresh b (takes b o)
takes_fresh b None = λ link f. absurd (cc)
takes_fresh b (Some t) =
    both (LendsFresh b) b.is_shut _ _ (λ link f. absurd (cc))
    (both (LendsFresh b) (has_waited b t) _ _ (λ link f. absurd (cc))
    (both (LendsFresh b) (b.is_paused || not (waiting_before t.key t.client b.tickets == 0)) _ _ (λ link f. absurd (cc))
    (grants_fresh b t (lendable b.fresh_from t.key b.idle) refl)))

lends_fresh : (b : Book) (client : ℕ) → LendsFresh b (apply b (Take client))
unfolding apply
lends_fresh b client =
    both (LendsFresh b) (b.decisions == last_decision) _ _ (λ link f. absurd (cc))
    (both (LendsFresh b) (is_strange b (Take client)) _ _ (λ link f. absurd (cc)) (takes_fresh b (find (is_of client) b.tickets)))

-- ---- and only they are kept

abbrev KeepsFresh : Book → ℕ → Answer → Type 0
KeepsFresh b n a = a.reply ≡ Done → b.fresh_from ≤ n

found_number : (n : ℕ) (links : List Link) (link : Link) → find (is_link n) links ≡ Some link → link.number ≡ n
found_number n [] link e = absurd (none-some _ e)
found_number n (l ∷ ls) link e = go (is_link n l) refl e (found_number n ls link)
  where
    go : (b : Bool) → is_link n l ≡ b → cond b (Some l) (find (is_link n) ls) ≡ Some link → (find (is_link n) ls ≡ Some link → link.number ≡ n) → link.number ≡ n
    go true f p ih = ap (λ (m : Link). m.number) (sym (same_Some _ _ p)) ∙ eqb-true l.number n f
    go false f p ih = ih p

gives_fresh : (b : Book) (n : ℕ) (o : Option Link) → find (is_link n) b.lent ≡ o → KeepsFresh b n (gives_back b o)
gives_fresh b n None e = λ f. absurd (cc)
gives_fresh b n (Some l) e =
    by_branch (KeepsFresh b n) (is_old b l || is_crowded b l) _ _ (λ _ f. absurd (cc))
    (λ stays f. subst (λ (m : ℕ). b.fresh_from ≤ m) (found_number n b.lent l e) (leb-true b.fresh_from l.number (kept_is_fresh _ b.is_shut (is_fresh b.fresh_from l) (is_crowded b l) stays)))

returned_fresh : (b : Book) (n : ℕ) → KeepsFresh b n (apply b (GiveBack n))
unfolding apply
returned_fresh b n =
    both (KeepsFresh b n) (b.decisions == last_decision) _ _ (λ f. absurd (cc))
    (both (KeepsFresh b n) (is_strange b (GiveBack n)) _ _ (λ f. absurd (cc)) (gives_fresh b n (find (is_link n) b.lent) refl))

keeps_fresh : (b : Book) (n : ℕ) (key : StartKeyOf) (started_at : ℕ) → KeepsFresh b n (apply_return b n key started_at)
unfolding apply_return
keeps_fresh b n key started_at =
    both (KeepsFresh b n) (b.decisions == last_decision) _ _ (λ f. absurd (cc))
    (both (KeepsFresh b n) (is_started_as key started_at (find (is_link n) b.lent)) _ _ (returned_fresh b n) (λ f. absurd (cc)))

-- ---- what isn't fresh stays so

abbrev Grows : Book → Answer → Type 0
Grows b a = b.fresh_from ≤ a.book.fresh_from

evicts_grow : (b : Book) (t : Ticket) (o : Option Link) → Grows b (evicts b t o)
evicts_grow b t None = le_refl b.fresh_from
evicts_grow b t (Some old) = le_refl b.fresh_from

grants_grow : (b : Book) (t : Ticket) (o : Option Link) → Grows b (grants b t o)
grants_grow b t (Some link) = le_refl b.fresh_from
grants_grow b t None =
    both (Grows b) (nat_lt (pool_count b t.key) (pool_size b.limits t.key)) _ _
    (both (Grows b) (nat_lt (link_count b) b.limits.max_links) _ _ (le_refl b.fresh_from) (evicts_grow b t (find (λ link. true) b.idle)))
    (evicts_grow b t (find (in_pool t.key) b.idle))

takes_grow : (b : Book) (o : Option Ticket) → Grows b (takes b o)
takes_grow b None = le_refl b.fresh_from
takes_grow b (Some t) =
    both (Grows b) b.is_shut _ _ (le_refl b.fresh_from)
    (both (Grows b) (has_waited b t) _ _ (le_refl b.fresh_from)
    (both (Grows b) (b.is_paused || not (waiting_before t.key t.client b.tickets == 0)) _ _ (le_refl b.fresh_from)
    (grants_grow b t (lendable b.fresh_from t.key b.idle))))

gives_grow : (b : Book) (o : Option Link) → Grows b (gives_back b o)
gives_grow b None = le_refl b.fresh_from
gives_grow b (Some link) = both (Grows b) (is_old b link || is_crowded b link) _ _ (le_refl b.fresh_from) (le_refl b.fresh_from)

closes_grow : (b : Book) (now : ℕ) (o : Option Link) → Grows b (closes (at_clock b now) o)
closes_grow b now None = le_refl b.fresh_from
closes_grow b now (Some link) = le_refl b.fresh_from

hangs_up_grow : (b : Book) (o : Option Link) → Grows b (hangs_up b o)
hangs_up_grow b None = le_refl b.fresh_from
hangs_up_grow b (Some link) = le_refl b.fresh_from

strikes_grow : (b : Book) (lease : Lease) (host : Option (List ℕ)) → Grows b (strikes b lease host)
strikes_grow b lease None = le_refl b.fresh_from
strikes_grow b lease (Some host) = le_refl b.fresh_from

strikes_at_grow : (b : Book) (lease : Lease) (o : Option Link) → Grows b (strikes_at b lease o)
strikes_at_grow b lease None = le_refl b.fresh_from
strikes_at_grow b lease (Some link) = strikes_grow b lease link.key.host

cancels_grow : (b : Book) (o : Option Lease) → Grows b (cancels b o)
cancels_grow b None = le_refl b.fresh_from
cancels_grow b (Some lease) = strikes_at_grow b lease (find (is_link lease.link) b.lent)

changes_grow : (b : Book) (change : Change) → Kept b → b.fresh_from ≤ (changed change b).fresh_from
changes_grow b Reconnect h = h.fresh.next_too
changes_grow b _ h = le_refl b.fresh_from

outcome_grows : (b : Book) (e : Event) → Kept b → Grows b (outcome b e)
outcome_grows b (Arrive beyond) h =
    both (Grows b) b.is_shut _ _ (le_refl b.fresh_from)
    (both (Grows b) (nat_lt (length b.clients) _) _ _ (le_refl b.fresh_from) (le_refl b.fresh_from))
outcome_grows b (Ask client key) h = both (Grows b) b.is_shut _ _ (le_refl b.fresh_from) (le_refl b.fresh_from)
outcome_grows b (Take client) h = takes_grow b (find (is_of client) b.tickets)
outcome_grows b (GiveBack n) h = gives_grow b (find (is_link n) b.lent)
outcome_grows b (Tick now) h = closes_grow b now (find (is_stale (at_clock b now)) b.idle)
outcome_grows b (Makes change) h = changes_grow b change h
outcome_grows b (Cancel client) h = cancels_grow b (find (is_of_client client) b.keyed)
outcome_grows b (HungUp n) h = hangs_up_grow b (find (is_link n) b.idle)
outcome_grows b (Lost n) h = le_refl b.fresh_from
outcome_grows b (StartFailed n) h = le_refl b.fresh_from
outcome_grows b (Leave client) h = le_refl b.fresh_from
outcome_grows b (Keyed n client server) h = le_refl b.fresh_from
outcome_grows b (EndLease n) h = le_refl b.fresh_from

counted_same : (b : Book) (k : Option Kind) → (counted b k).fresh_from ≡ b.fresh_from
counted_same b None = refl
counted_same b (Some k) = refl

decided_grows : (b : Book) (e : Event) → Kept b → Grows b (decided b e (outcome b e))
decided_grows b e h = subst (λ (n : ℕ). b.fresh_from ≤ n) (sym (counted_same (outcome b e).book (kind_of b e (outcome b e).reply))) (outcome_grows b e h)

grows : (b : Book) (e : Event) → Kept b → Grows b (apply b e)
unfolding apply
grows b e h =
    both (Grows b) (b.decisions == last_decision) _ _ (le_refl b.fresh_from)
    (both (Grows b) (is_strange b e) _ _ (le_refl b.fresh_from) (decided_grows b e h))

after_all : (first : ℕ) (b : Book) (es : List Event) → Kept b → AllFit es → first ≤ b.fresh_from → first ≤ (after b es).fresh_from
after_all first b [] h fits low = low
after_all first b (e ∷ es) h fits low = after_all first (apply b e).book es (applied_keeps b e fits.0 h) fits.1 (le_trans low (grows b e h))

-- ---- behind a Reconnect

renews : (b : Book) → (apply b (Makes Reconnect)).reply ≡ Done → (apply b (Makes Reconnect)).book.fresh_from ≡ b.next_link
unfolding apply
renews b e = go (b.decisions == last_decision) e
  where
    go : (last : Bool) → (cond {A = Answer} last (record { book = b; reply = Refuse LastDecision }) (decided b (Makes Reconnect) (outcome b (Makes Reconnect)))).reply ≡ Done
        → (cond {A = Answer} last (record { book = b; reply = Refuse LastDecision }) (decided b (Makes Reconnect) (outcome b (Makes Reconnect)))).book.fresh_from ≡ b.next_link
    go true f = absurd (cc)
    go false f = refl

renewed : (b : Book) (es : List Event) → Kept b → AllFit es → (apply b (Makes Reconnect)).reply ≡ Done → b.next_link ≤ (after (apply b (Makes Reconnect)).book es).fresh_from
renewed b es h fits done = after_all b.next_link (apply b (Makes Reconnect)).book es (applied_keeps b (Makes Reconnect) tt h) fits (le_of_eq (sym (renews b done)))

pub never_lent : NeverLentAgain
never_lent b es client link h fits done below lent =
    omega (arith, below, renewed b es h fits done, lends_fresh (after (apply b (Makes Reconnect)).book es) client link lent)

pub never_kept : NeverKeptAgain
never_kept b es link key started_at h fits done below back =
    omega (arith, below, renewed b es h fits done, keeps_fresh (after (apply b (Makes Reconnect)).book es) link key started_at back)
