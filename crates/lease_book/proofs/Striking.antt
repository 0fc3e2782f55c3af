-- A strike is at the place of its link, which is lent. No other event than a Cancel strikes.
use Rattle.std.proofs.Common.{◌≡◌, ℕ, ◌+◌, List, [], ◌∷◌, Bool, true, false, cond, Option, None, Some, inl, inr, length, refl, sym, ap, ◌∙◌, subst}
use Rattle.std.specs.Prelude.{find, not, ◌==◌, ◌||◌, nat_lt, is_some, option_map}
use Rattle.std.specs.List.{list_any}
use Rattle.std.proofs.lemmas.Bool.{eqb-true}
use Rattle.session_values.specs.State.{StartKeyOf}
use Rattle.book_model.specs.Book.{Book, Lease, Link, Ticket, in_pool, is_link, is_number, is_of, is_of_client, lendable, link_count, places_beyond, pool_count, pool_size, waiting_before}
use Rattle.book_model.specs.Laws.{HasLink}
use Rattle.book_model.specs.Outcomes.{Answer, Event, apply, at_clock, cancels, closes, counted, evicts, gives_back, grants, hangs_up, has_waited, is_crowded, is_old, is_stale, is_strange, kind_of, last_decision, outcome, strikes, strikes_at, takes}
use Rattle.book_model.specs.Outcomes.Event.{Arrive, Ask, Take, GiveBack, Lost, StartFailed, Leave, Tick, Makes, Keyed, Cancel, EndLease, HungUp}
use Rattle.book_model.specs.Places.{IsPlaceOf}
use Rattle.book_model.specs.declared.counts.Kind.{Kind}
use Rattle.book_model.specs.declared.events.Reply.{Reply}
use Rattle.book_model.specs.declared.events.Reply.TheVariants as told
use Rattle.lease_book.specs.Links.{StrikesInPlace, can_strike, has_place, may_hand_back, reply_of}
use Rattle.lease_book.specs.declared.events.BookReply.{BookReply}
use Rattle.lease_book.specs.declared.events.BookReply.TheVariants as reply

-- ---- the link that is found

has_found : (n : ℕ) (links : List Link) (link : Link) → find (is_link n) links ≡ Some link → HasLink n link.key links
has_found n [] link e = cc
has_found n (l ∷ ls) link e = at (is_link n l) refl e (λ h. has_found n ls link h)
  where
    at : (b : Bool) → is_link n l ≡ b → cond b (Some l) (find (is_link n) ls) ≡ Some link → (find (is_link n) ls ≡ Some link → HasLink n link.key ls) → HasLink n link.key (l ∷ ls)
    at true is h later = let same : l ≡ link = cc in inl (eqb-true l.number n is, ap (λ (x : Link). x.key) same)
    at false is h later = inr (later h)

pub in_place : (b : Book) (n : ℕ) (key : StartKeyOf) (host : List ℕ) → option_map (λ (l : Link). l.key) (find (is_link n) b.lent) ≡ Some key → key.host ≡ Some host → IsPlaceOf b n host key.port
in_place b n key host e h = at (find (is_link n) b.lent) refl e
  where
    at : (o : Option Link) → find (is_link n) b.lent ≡ o → option_map (λ (l : Link). l.key) o ≡ Some key → IsPlaceOf b n host key.port
    at None is k = cc
    at (Some link) is k = let same : link.key ≡ key = cc in record { key = key; is_lent = subst (λ (x : StartKeyOf). HasLink n x b.lent) same (has_found n b.lent link is); host_is = h; port_is = refl }

-- ---- a strike leaves the lent links as they are, and its own has a place

abbrev Struck : Book → Book → Reply → Type 0
Struck b new (told.Strike n server) = (new.lent ≡ b.lent) × (has_place (find (is_link n) b.lent) ≡ true)
Struck b new _ = Unit {0}

abbrev Strikes : Book → Answer → Type 0
Strikes b a = Struck b a.book a.reply

both : (b : Book) (is : Bool) (x y : Answer) → Strikes b x → Strikes b y → Strikes b (cond is x y)
both b true x y p q = p
both b false x y p q = q

by_evicts : (b : Book) (t : Ticket) (o : Option Link) → Strikes b (evicts b t o)
by_evicts b t None = tt
by_evicts b t (Some old) = tt

by_grants : (b : Book) (t : Ticket) (o : Option Link) → Strikes b (grants b t o)
by_grants b t (Some link) = tt
by_grants b t None =
    both b (nat_lt (pool_count b t.key) (pool_size b.limits t.key)) _ _
    (both b (nat_lt (link_count b) b.limits.max_links) _ _ tt (by_evicts b t (find (λ link. true) b.idle)))
    (by_evicts b t (find (in_pool t.key) b.idle))

by_takes : (b : Book) (o : Option Ticket) → Strikes b (takes b o)
by_takes b None = tt
by_takes b (Some t) =
    both b b.is_shut _ _ tt
    (both b (has_waited b t) _ _ tt
    (both b (b.is_paused || not (waiting_before t.key t.client b.tickets == 0)) _ _ tt
    (by_grants b t (lendable b.fresh_from t.key b.idle))))

by_gives : (b : Book) (o : Option Link) → Strikes b (gives_back b o)
by_gives b None = tt
by_gives b (Some link) = both b (is_old b link || is_crowded b link) _ _ tt tt

by_closes : (b : Book) (now : ℕ) (o : Option Link) → Strikes b (closes (at_clock b now) o)
by_closes b now None = tt
by_closes b now (Some link) = tt

by_hangs_up : (b : Book) (o : Option Link) → Strikes b (hangs_up b o)
by_hangs_up b None = tt
by_hangs_up b (Some link) = tt

by_cancels : (b : Book) (o : Option Lease) → Strikes b (cancels b o)
by_cancels b None = tt
by_cancels b (Some lease) = at (find (is_link lease.link) b.lent) refl
  where
    by_host : (link : Link) (host : Option (List ℕ)) → find (is_link lease.link) b.lent ≡ Some link → link.key.host ≡ host → Strikes b (strikes b lease host)
    by_host link None e is = tt
    by_host link (Some host) e is = (refl, ap has_place e ∙ ap is_some is)

    at : (o : Option Link) → find (is_link lease.link) b.lent ≡ o → Strikes b (strikes_at b lease o)
    at None e = tt
    at (Some link) e = by_host link link.key.host e refl

by_end : (b new : Book) (marked : Bool) → Struck b new (cond marked told.Dispose told.Reset)
by_end b new true = tt
by_end b new false = tt

by_outcome : (b : Book) (e : Event) → Strikes b (outcome b e)
by_outcome b (Arrive beyond) = both b b.is_shut _ _ tt (both b (nat_lt (length b.clients) (b.limits.max_clients + places_beyond beyond)) _ _ tt tt)
by_outcome b (Ask c key) = both b b.is_shut _ _ tt tt
by_outcome b (Take c) = by_takes b (find (is_of c) b.tickets)
by_outcome b (GiveBack n) = by_gives b (find (is_link n) b.lent)
by_outcome b (Lost n) = tt
by_outcome b (StartFailed n) = tt
by_outcome b (Leave c) = tt
by_outcome b (Tick now) = by_closes b now (find (is_stale (at_clock b now)) b.idle)
by_outcome b (Makes change) = tt
by_outcome b (Keyed n client server) = tt
by_outcome b (Cancel client) = by_cancels b (find (is_of_client client) b.keyed)
by_outcome b (EndLease n) = by_end b (outcome b (EndLease n)).book (list_any (is_number n) b.marked)
by_outcome b (HungUp n) = by_hangs_up b (find (is_link n) b.idle)

when_counted : (b new : Book) (k : Option Kind) (r : Reply) → Struck b new r → Struck b (counted new k) r
when_counted b new None r s = s
when_counted b new (Some k) (told.Strike n server) s = s
when_counted b new (Some k) _ s = tt

by_apply : (b : Book) (e : Event) → Strikes b (apply b e)
unfolding apply
by_apply b e =
    both b (b.decisions == last_decision) _ _ tt
    (both b (is_strange b e) _ _ tt (when_counted b (outcome b e).book (kind_of b e (outcome b e).reply) (outcome b e).reply (by_outcome b e)))

struck : (b lists : Book) (e : Event) (r : Reply) → lists ≡ (apply b e).book → r ≡ (apply b e).reply → Struck b lists r
struck b lists e r is told_is = subst (λ (x : Book). Struck b x r) (sym is) (subst (λ (x : Reply). Struck b (apply b e).book x) (sym told_is) (by_apply b e))

-- ---- as the book goes on

pub may_strike : (b lists at : Book) (e : Event) (r : Reply) → at ≡ lists → lists ≡ (apply b e).book → r ≡ (apply b e).reply → can_strike at r ≡ true
may_strike b lists at e r same is told_is =
    elim r as (λ x. Struck b lists x → can_strike at x ≡ true) [
      | told.Strike n server ↦ λ s. ap (λ (x : Book). has_place (find (is_link n) x.lent)) same ∙ (ap (λ (l : List Link). has_place (find (is_link n) l)) s.0 ∙ s.1)
      | _ ↦ λ s. refl
    ] (struck b lists e r is told_is)

module _ {E : Type 0} where
  -- a strike's link was lent before, with this place
  pub place_before : (b lists at : Book) (e : Event) (x : Reply) (r : BookReply E) → at ≡ lists → lists ≡ (apply b e).book → x ≡ (apply b e).reply → reply_of r ≡ x → StrikesInPlace at r → StrikesInPlace b r
  place_before b lists at e x r same is told_is answer =
      elim r as (λ q. Struck b lists (reply_of q) → StrikesInPlace at q → StrikesInPlace b q) [
        | reply.Strike n server host port ↦ λ s p. record { key = p.key; is_lent = subst (HasLink n p.key) (ap (λ (y : Book). y.lent) same ∙ s.0) p.is_lent; host_is = p.host_is; port_is = p.port_is }
        | _ ↦ λ s p. tt
      ] (struck b lists e (reply_of r) is (answer ∙ told_is))

  -- a link that is handed back strikes nobody
  pub back_in_place : (b : Book) (n : ℕ) (r : BookReply E) (x : Reply) → reply_of r ≡ x → may_hand_back n x ≡ true → StrikesInPlace b r
  back_in_place b n r x is back =
      elim r as (λ q. may_hand_back n (reply_of q) ≡ true → StrikesInPlace b q) [
        | reply.Strike m server host port ↦ λ h. cc
        | _ ↦ λ h. tt
      ] (ap (may_hand_back n) is ∙ back)
