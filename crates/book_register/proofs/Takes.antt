-- What a Take gives, case by case.
use Rattle.std.proofs.Common.{◌≡◌, ℕ, suc, ◌≤◌, ◌<◌, length, Bool, true, false, List, [], ◌∷◌, Option, None, Some, cond, refl, sym, ap, ◌∙◌, subst, arith}
use Rattle.std.specs.Prelude.{find, not, count_by, ◌==◌, ◌||◌}
use Rattle.std.specs.List.{list_any}
use Rattle.std.proofs.lemmas.Bool.{eqb-true}
use Rattle.message_view.specs.declared.refusal.Refusal.{Refusal}
use Rattle.message_view.specs.declared.refusal.Refusal.TheVariants.{ShuttingDown, WaitedTooLong}
use Rattle.book_model.specs.Book.{Book, Client, Link, Ticket, is_link, is_of, lendable, link_count, waiting_before, without, without_ticket}
use Rattle.book_model.specs.Outcomes.{Answer, grants, has_waited, last_decision, lends, loses_ticket, starts, takes, waits}
use Rattle.book_model.specs.declared.events.Reply.{Reply}
use Rattle.book_model.specs.declared.events.Reply.TheVariants.{Queued, Refuse, Stranger}
use Rattle.book_register.specs.Choices.{Chooses, Gives}
use Rattle.book_register.specs.declared.book_state.Choice.TheVariants.{Lend, Start, Evict, Wait}
use Rattle.book_model.specs.Kept.{Kept, KeptClients, KeptLinks}
use Rattle.book_model.specs.declared.limits.TheConstants.{MAX_LINKS}

pub one_ticket : (clients : List Client) (tickets : List Ticket) (next : ℕ) → KeptClients clients tickets next → (n : ℕ) → count_by (is_of n) tickets ≤ 1
one_ticket clients tickets next k n = omega (arith, k.of_clients n, k.once n)

pub one_lent : (lent idle : List Link) (next : ℕ) → KeptLinks lent idle next → (n : ℕ) → count_by (is_link n) lent ≤ 1
one_lent lent idle next k n = omega (arith, k.once n)

pub one_idle : (lent idle : List Link) (next : ℕ) → KeptLinks lent idle next → (n : ℕ) → count_by (is_link n) idle ≤ 1
one_idle lent idle next k n = omega (arith, k.once n)

takes_by : (b : Book) (t : Ticket) (x y z : Bool) → b.is_shut ≡ x → has_waited b t ≡ y → (b.is_paused || not (waiting_before t.key t.client b.tickets == 0)) ≡ z → takes b (Some t) ≡ cond x (loses_ticket b t ShuttingDown) (cond y (loses_ticket b t WaitedTooLong) (cond z (waits b t) (grants b t (lendable b.fresh_from t.key b.idle))))
takes_by b t x y z e f g =
    let rest : Bool → Bool → Answer = λ v w. cond v (loses_ticket b t WaitedTooLong) (cond w (waits b t) (grants b t (lendable b.fresh_from t.key b.idle))) in
    ap (λ (v : Bool). cond {A = Answer} v (loses_ticket b t ShuttingDown) (rest (has_waited b t) (b.is_paused || not (waiting_before t.key t.client b.tickets == 0)))) e
    ∙ (ap (λ (v : Bool). cond {A = Answer} x (loses_ticket b t ShuttingDown) (rest v (b.is_paused || not (waiting_before t.key t.client b.tickets == 0)))) f
    ∙ ap (λ (v : Bool). cond {A = Answer} x (loses_ticket b t ShuttingDown) (rest y v)) g)

pub took_shut : (b : Book) (t : Ticket) → b.is_shut ≡ true → takes b (Some t) ≡ loses_ticket b t ShuttingDown
took_shut b t e = takes_by b t true (has_waited b t) (b.is_paused || not (waiting_before t.key t.client b.tickets == 0)) e refl refl

pub took_late : (b : Book) (t : Ticket) → b.is_shut ≡ false → has_waited b t ≡ true → takes b (Some t) ≡ loses_ticket b t WaitedTooLong
took_late b t e f = takes_by b t false true (b.is_paused || not (waiting_before t.key t.client b.tickets == 0)) e f refl

pub took_nothing : (b : Book) (t : Ticket) → b.is_shut ≡ false → has_waited b t ≡ false → (b.is_paused || not (waiting_before t.key t.client b.tickets == 0)) ≡ true → takes b (Some t) ≡ waits b t
took_nothing b t e f g = takes_by b t false false true e f g

pub took_link : (b : Book) (t : Ticket) → b.is_shut ≡ false → has_waited b t ≡ false → (b.is_paused || not (waiting_before t.key t.client b.tickets == 0)) ≡ false → takes b (Some t) ≡ grants b t (lendable b.fresh_from t.key b.idle)
took_link b t e f g = takes_by b t false false false e f g

-- ---- what is found by its number bears it

same_row : {A : Type 0} (x y : A) (o : Option A) → o ≡ Some x → o ≡ Some y → x ≡ y
same_row x y o e f = cc

ticket_bears : (client : ℕ) (ts : List Ticket) (t : Ticket) → find (is_of client) ts ≡ Some t → t.client ≡ client
ticket_bears client [] t e = absurd (cc)
ticket_bears client (u ∷ us) t e = by (is_of client u) refl e (λ f. ticket_bears client us t f)
  where
    by : (b : Bool) → is_of client u ≡ b → cond b (Some u) (find (is_of client) us) ≡ Some t → (find (is_of client) us ≡ Some t → t.client ≡ client) → t.client ≡ client
    by true g f h = ap (λ (v : Ticket). v.client) (sym (same_row u t (Some u) refl f)) ∙ eqb-true u.client client g
    by false g f h = h f

pub link_bears : (n : ℕ) (ls : List Link) (l : Link) → find (is_link n) ls ≡ Some l → l.number ≡ n
link_bears n [] l e = absurd (cc)
link_bears n (k ∷ ks) l e = by (is_link n k) refl e (λ f. link_bears n ks l f)
  where
    by : (b : Bool) → is_link n k ≡ b → cond b (Some k) (find (is_link n) ks) ≡ Some l → (find (is_link n) ks ≡ Some l → l.number ≡ n) → l.number ≡ n
    by true g f h = ap (λ (v : Link). v.number) (sym (same_row k l (Some k) refl f)) ∙ eqb-true k.number n g
    by false g f h = h f

-- who has a ticket is there
pub has_ticket : (client : ℕ) (ts : List Ticket) (t : Ticket) → find (is_of client) ts ≡ Some t → list_any (is_of client) ts ≡ true
has_ticket client [] t e = absurd (cc)
has_ticket client (u ∷ us) t e = by (is_of client u) e (λ f. has_ticket client us t f)
  where
    by : (b : Bool) → cond b (Some u) (find (is_of client) us) ≡ Some t → (find (is_of client) us ≡ Some t → list_any (is_of client) us ≡ true) → (b || list_any (is_of client) us) ≡ true
    by true f h = refl
    by false f h = h f

-- ---- a grant, done step by step: `before` is the book as its fields stand

abbrev ticket_of : Book → ℕ → Option Ticket
ticket_of b client = find (is_of client) b.tickets

ticket_read : (before b : Book) (client : ℕ) (t x : Ticket) → before ≡ b → ticket_of b client ≡ Some t → ticket_of before client ≡ Some x → x ≡ t
ticket_read before b client t x e at read = same_row x t (ticket_of b client) (ap (λ (v : Book). ticket_of v client) (sym e) ∙ read) at

pub lend_done : (before b after : Book) (client idle : ℕ) (t x y : Ticket) (link : Link) (tickets : List Ticket) (links : List Link) (reply : Reply) → before ≡ b → ticket_of b client ≡ Some t → ticket_of before client ≡ Some x → ticket_of before client ≡ Some y → Chooses b y (Lend idle) → find (is_link idle) before.idle ≡ Some link → tickets ≡ without_ticket client before.tickets → links ≡ without idle before.idle → after ≡ record ((lends before x link).book) { tickets = tickets; idle = links } → reply ≡ (lends before x link).reply → Gives after reply (grants b t (lendable b.fresh_from t.key b.idle))
lend_done before b after client idle t x y link tickets links reply e at taken read chosen il et el done replied =
    let ex : x ≡ t = ticket_read before b client t x e at taken in
    let ey : y ≡ t = ticket_read before b client t y e at read in
    let way : Chooses b t (Lend idle) = subst (λ (z : Ticket). Chooses b z (Lend idle)) ey chosen in
    let el2 : link ≡ way.0 = same_row link way.0 (find (is_link idle) b.idle) (ap (λ (v : Book). find (is_link idle) v.idle) (sym e) ∙ il) way.1 in
    let given : grants b t (lendable b.fresh_from t.key b.idle) ≡ lends b t link = way.2 ∙ ap (lends b t) (sym el2) in
    let same : lends before x link ≡ lends b t link = ap (λ (v : Book). lends v x link) e ∙ ap (λ (z : Ticket). lends b z link) ex in
    let own : client ≡ x.client = sym (ticket_bears client before.tickets x taken) in
    let number : idle ≡ link.number = sym (link_bears idle before.idle link il) in
    let tickets_are : tickets ≡ without_ticket x.client before.tickets = et ∙ ap (λ (n : ℕ). without_ticket n before.tickets) own in
    let links_are : links ≡ without link.number before.idle = el ∙ ap (λ (n : ℕ). without n before.idle) number in
    let whole : record ((lends before x link).book) { tickets = tickets; idle = links } ≡ (lends before x link).book =
    ap (λ (ts : List Ticket). record ((lends before x link).book) { tickets = ts; idle = links }) tickets_are ∙ ap (λ (ls : List Link). record ((lends before x link).book) { idle = ls }) links_are in
    (done ∙ (whole ∙ ap (λ (a : Answer). a.book) (same ∙ sym given)), replied ∙ ap (λ (a : Answer). a.reply) (same ∙ sym given))

pub start_done : (before b after : Book) (client : ℕ) (t x y : Ticket) (tickets : List Ticket) (reply : Reply) → before ≡ b → ticket_of b client ≡ Some t → ticket_of before client ≡ Some x → ticket_of before client ≡ Some y → Chooses b y Start → tickets ≡ without_ticket client before.tickets → after ≡ record ((starts before x before.idle None).book) { tickets = tickets } → reply ≡ (starts before x before.idle None).reply → Gives after reply (grants b t (lendable b.fresh_from t.key b.idle))
start_done before b after client t x y tickets reply e at taken read chosen et done replied =
    let ex : x ≡ t = ticket_read before b client t x e at taken in
    let ey : y ≡ t = ticket_read before b client t y e at read in
    let given : grants b t (lendable b.fresh_from t.key b.idle) ≡ starts b t b.idle None = (subst (λ (z : Ticket). Chooses b z Start) ey chosen).1 in
    let same : starts before x before.idle None ≡ starts b t b.idle None = ap (λ (v : Book). starts v x v.idle None) e ∙ ap (λ (z : Ticket). starts b z b.idle None) ex in
    let own : client ≡ x.client = sym (ticket_bears client before.tickets x taken) in
    let tickets_are : tickets ≡ without_ticket x.client before.tickets = et ∙ ap (λ (n : ℕ). without_ticket n before.tickets) own in
    let whole : record ((starts before x before.idle None).book) { tickets = tickets } ≡ (starts before x before.idle None).book = ap (λ (ts : List Ticket). record ((starts before x before.idle None).book) { tickets = ts }) tickets_are in
    (done ∙ (whole ∙ ap (λ (a : Answer). a.book) (same ∙ sym given)), replied ∙ ap (λ (a : Answer). a.reply) (same ∙ sym given))

abbrev evicting : Book → Ticket → List Link → ℕ → Answer
evicting b t links n = starts (record b { evictions = suc b.evictions }) t links (Some n)

pub evict_done : (before b after : Book) (client idle more : ℕ) (t x y : Ticket) (tickets : List Ticket) (links : List Link) (reply : Reply) → before ≡ b → ticket_of b client ≡ Some t → ticket_of before client ≡ Some x → ticket_of before client ≡ Some y → Chooses b y (Evict idle) → tickets ≡ without_ticket client before.tickets → links ≡ without idle before.idle → more ≡ suc before.evictions → after ≡ record ((starts (record before { evictions = more }) x links (Some idle)).book) { tickets = tickets } → reply ≡ (evicting before x links idle).reply → Gives after reply (grants b t (lendable b.fresh_from t.key b.idle))
evict_done before b after client idle more t x y tickets links reply e at taken read chosen et el em done replied =
    let ex : x ≡ t = ticket_read before b client t x e at taken in
    let ey : y ≡ t = ticket_read before b client t y e at read in
    let given : grants b t (lendable b.fresh_from t.key b.idle) ≡ evicting b t (without idle b.idle) idle = (subst (λ (z : Ticket). Chooses b z (Evict idle)) ey chosen).1 in
    let same : evicting before x links idle ≡ evicting b t (without idle b.idle) idle =
    ap (λ (ls : List Link). evicting before x ls idle) el ∙ (ap (λ (v : Book). evicting v x (without idle v.idle) idle) e ∙ ap (λ (z : Ticket). evicting b z (without idle b.idle) idle) ex) in
    let counted : record ((starts (record before { evictions = more }) x links (Some idle)).book) { tickets = tickets } ≡ record ((evicting before x links idle).book) { tickets = tickets } = ap (λ (m : ℕ). record ((starts (record before { evictions = m }) x links (Some idle)).book) { tickets = tickets }) em in
    let own : client ≡ x.client = sym (ticket_bears client before.tickets x taken) in
    let tickets_are : tickets ≡ without_ticket x.client before.tickets = et ∙ ap (λ (n : ℕ). without_ticket n before.tickets) own in
    let whole : record ((evicting before x links idle).book) { tickets = tickets } ≡ (evicting before x links idle).book = ap (λ (ts : List Ticket). record ((evicting before x links idle).book) { tickets = ts }) tickets_are in
    (done ∙ (counted ∙ (whole ∙ ap (λ (a : Answer). a.book) (same ∙ sym given))), replied ∙ ap (λ (a : Answer). a.reply) (same ∙ sym given))

pub wait_done : (before b : Book) (client : ℕ) (t y : Ticket) → before ≡ b → ticket_of b client ≡ Some t → ticket_of before client ≡ Some y → waiting_before t.key t.client b.tickets ≡ 0 → Chooses b y Wait → Gives b (Queued 0) (grants b t (lendable b.fresh_from t.key b.idle))
wait_done before b client t y e at read none chosen =
    let given : grants b t (lendable b.fresh_from t.key b.idle) ≡ waits b t = subst (λ (z : Ticket). Chooses b z Wait) (ticket_read before b client t y e at read) chosen in
    (ap (λ (a : Answer). a.book) (sym given), ap Queued (sym none) ∙ ap (λ (a : Answer). a.reply) (sym given))

-- ---- the ticket that a Take finds

taken_by : (before b after : Book) (client : ℕ) (t : Ticket) (reply : Reply) (a : Answer) → before ≡ b → ticket_of before client ≡ Some t → takes b (Some t) ≡ a → Gives after reply a → Gives after reply (takes b (find (is_of client) b.tickets))
taken_by before b after client t reply a e f same given =
    let whole : takes b (find (is_of client) b.tickets) ≡ a = ap (takes b) (ap (λ (v : Book). ticket_of v client) (sym e) ∙ f) ∙ same in
    (given.0 ∙ ap (λ (v : Answer). v.book) (sym whole), given.1 ∙ ap (λ (v : Answer). v.reply) (sym whole))

ticket_lost : (b after : Book) (t : Ticket) (client : ℕ) (reply : Reply) (r : Refusal) → t.client ≡ client → after ≡ record b { tickets = without_ticket client b.tickets } → reply ≡ Refuse r → Gives after reply (loses_ticket b t r)
ticket_lost b after t client reply r e done replied = (done ∙ ap (λ (n : ℕ). record b { tickets = without_ticket n b.tickets }) (sym e), replied)

pub shut_done : (before b after : Book) (client : ℕ) (t : Ticket) (reply : Reply) → before ≡ b → ticket_of before client ≡ Some t → before.is_shut ≡ true → after ≡ record b { tickets = without_ticket client b.tickets } → reply ≡ Refuse ShuttingDown → Gives after reply (takes b (find (is_of client) b.tickets))
shut_done before b after client t reply e f shut done replied =
    taken_by before b after client t reply (loses_ticket b t ShuttingDown) e f (took_shut b t (ap (λ (v : Book). v.is_shut) (sym e) ∙ shut))
    (ticket_lost b after t client reply ShuttingDown (ticket_bears client before.tickets t f) done replied)

pub late_done : (before b after : Book) (client : ℕ) (t : Ticket) (reply : Reply) → before ≡ b → ticket_of before client ≡ Some t → before.is_shut ≡ false → has_waited b t ≡ true → after ≡ record b { tickets = without_ticket client b.tickets } → reply ≡ Refuse WaitedTooLong → Gives after reply (takes b (find (is_of client) b.tickets))
late_done before b after client t reply e f open_is late done replied =
    taken_by before b after client t reply (loses_ticket b t WaitedTooLong) e f (took_late b t (ap (λ (v : Book). v.is_shut) (sym e) ∙ open_is) late)
    (ticket_lost b after t client reply WaitedTooLong (ticket_bears client before.tickets t f) done replied)

abbrev must_wait : Book → ℕ → Bool
must_wait b n = b.is_paused || not (n == 0)

waits_by : (b : Book) (client n : ℕ) (t : Ticket) (x : Bool) → t.client ≡ client → n ≡ waiting_before t.key client b.tickets → must_wait b n ≡ x → must_wait b (waiting_before t.key t.client b.tickets) ≡ x
waits_by b client n t x e f g = ap (λ (m : ℕ). must_wait b (waiting_before t.key m b.tickets)) e ∙ (ap (must_wait b) (sym f) ∙ g)

pub waiting_done : (before b : Book) (client n : ℕ) (t : Ticket) → before ≡ b → ticket_of before client ≡ Some t → before.is_shut ≡ false → has_waited b t ≡ false → n ≡ waiting_before t.key client b.tickets → must_wait b n ≡ true → Gives b (Queued n) (takes b (find (is_of client) b.tickets))
waiting_done before b client n t e f open_is early count wait =
    let is : t.client ≡ client = ticket_bears client before.tickets t f in
    taken_by before b b client t (Queued n) (waits b t) e f (took_nothing b t (ap (λ (v : Book). v.is_shut) (sym e) ∙ open_is) early (waits_by b client n t true is count wait))
    (refl, ap Queued (count ∙ ap (λ (m : ℕ). waiting_before t.key m b.tickets) (sym is)))

pub granted_done : (before b after : Book) (client n : ℕ) (t : Ticket) (reply : Reply) → before ≡ b → ticket_of before client ≡ Some t → before.is_shut ≡ false → has_waited b t ≡ false → n ≡ waiting_before t.key client b.tickets → must_wait b n ≡ false → ((u : Ticket) → ticket_of b client ≡ Some u → Gives after reply (grants b u (lendable b.fresh_from u.key b.idle))) → Gives after reply (takes b (find (is_of client) b.tickets))
granted_done before b after client n t reply e f open_is early count wait each =
    let is : t.client ≡ client = ticket_bears client before.tickets t f in
    taken_by before b after client t reply (grants b t (lendable b.fresh_from t.key b.idle)) e f (took_link b t (ap (λ (v : Book). v.is_shut) (sym e) ∙ open_is) early (waits_by b client n t false is count wait))
    (each t (ap (λ (v : Book). ticket_of v client) (sym e) ∙ f))

not_false : (v : Bool) → not v ≡ false → v ≡ true
not_false true w = refl
not_false false w = cc

none_waits : (m : ℕ) (p : Bool) → (p || not (m == 0)) ≡ false → m ≡ 0
none_waits m true w = cc
none_waits m false w = eqb-true m 0 (not_false (m == 0) w)

pub is_first : (before b : Book) (client n : ℕ) (t u : Ticket) → before ≡ b → ticket_of before client ≡ Some t → n ≡ waiting_before t.key client b.tickets → must_wait b n ≡ false → ticket_of b client ≡ Some u → waiting_before u.key u.client b.tickets ≡ 0
is_first before b client n t u e f count wait at =
    let same : t ≡ u = ticket_read before b client u t e at f in
    let is : t.client ≡ client = ticket_bears client before.tickets t f in
    subst (λ (v : Ticket). waiting_before v.key v.client b.tickets ≡ 0) same (ap (λ (m : ℕ). waiting_before t.key m b.tickets) is ∙ (sym count ∙ none_waits n b.is_paused wait))

pub no_ticket : (b : Book) (client : ℕ) → find (is_of client) b.tickets ≡ None → Gives b Stranger (takes b (find (is_of client) b.tickets))
no_ticket b client e =
    let whole : takes b (find (is_of client) b.tickets) ≡ takes b None = ap (takes b) e in
    (ap (λ (v : Answer). v.book) (sym whole), ap (λ (v : Answer). v.reply) (sym whole))

-- ---- there is room for a link more, and for its number

pub one_more_fits : (b : Book) → Kept b → 0 < length b.idle → length b.lent < MAX_LINKS
one_more_fits b k h = omega (arith, k.links.fit, h)

pub started_fits : (b : Book) → Kept b → link_count b < b.limits.max_links → length b.lent < MAX_LINKS
started_fits b k h = omega (arith, k.limits.links, h)

pub may_start : (b : Book) → Kept b → b.decisions < last_decision → (b.starts < last_decision) × (b.next_link ≤ last_decision)
may_start b k h = (omega (arith, k.counts.all, k.counts.grants, h), omega (arith, k.counts.all, k.counts.grants, k.counts.links, h))

pub may_reuse : (b : Book) → Kept b → b.decisions < last_decision → b.reuses < last_decision
may_reuse b k h = omega (arith, k.counts.all, k.counts.grants, h)
