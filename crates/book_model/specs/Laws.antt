-- What the layers above know of the book: what each event makes of its tickets, its links, its leases and its next numbers.
use Rattle.std.specs.Prelude.{◌≡◌, ◌≢◌, ◌⊎◌, ℕ, suc, ◌≤◌, false, List, [], ◌∷◌, Some, None}
use Rattle.std.specs.List.{list_any}
use Rattle.message_view.specs.declared.refusal.Refusal.{Refusal}
use Rattle.message_view.specs.declared.views.KeyView.{KeyView}
use Rattle.session_values.specs.State.{StartKeyOf}
use Rattle.book_model.specs.Book.{Book, Lease, Link, Ticket, is_number}
use Rattle.book_model.specs.Outcomes.{Change, Event, apply, apply_return}
use Rattle.book_model.specs.declared.events.Beyond.{Beyond}
use Rattle.book_model.specs.declared.events.Reply.{Reply}
use Rattle.book_model.specs.Outcomes.Event.{Arrive, Ask, Take, Lost, StartFailed, Leave, Tick, Makes, Keyed, Cancel, EndLease, HungUp}
use Rattle.book_model.specs.declared.events.Reply.TheVariants.{Arrived, Queued, Lend, Start, Close, Refuse, Done, Strike, Reset}

-- a link of this number and key is among them
abbrev pub HasLink : ℕ → StartKeyOf → List Link → Type 0
HasLink n key [] = ⊥
HasLink n key (link ∷ links) = ((link.number ≡ n) × (link.key ≡ key)) ⊎ HasLink n key links

-- a ticket of this client and key is among them
abbrev pub HasTicket : ℕ → StartKeyOf → List Ticket → Type 0
HasTicket client key [] = ⊥
HasTicket client key (t ∷ tickets) = ((t.client ≡ client) × (t.key ≡ key)) ⊎ HasTicket client key tickets

-- a lease of this link and these key words is among those that a Cancel finds
abbrev pub HasLease : ℕ → KeyView → KeyView → List Lease → Type 0
HasLease n client server [] = ⊥
HasLease n client server (lease ∷ leases) = ((lease.link ≡ n) × (lease.client ≡ client) × (lease.server ≡ server)) ⊎ HasLease n client server leases

-- a link is lent, and its lease would end without a mark
pub record MayReturn (n : ℕ) (b : Book) : Type 0 where
  pub key : StartKeyOf
  pub is_lent : HasLink n key b.lent
  pub unmarked : list_any (is_number n) b.marked ≡ false

-- no lent link, no lease and no link that may return is new
pub record LendsNothing (old new : Book) : Type 0 where
  pub lent : (n : ℕ) (key : StartKeyOf) → HasLink n key new.lent → HasLink n key old.lent
  pub leases : (n : ℕ) (client server : KeyView) → HasLease n client server new.keyed → HasLease n client server old.keyed
  pub may_return : (n : ℕ) → MayReturn n new → MayReturn n old

-- one link of this key may be lent anew; no lease is new
pub record LendsOne (old : Book) (link : ℕ) (key : StartKeyOf) (new : Book) : Type 0 where
  pub lent : (n : ℕ) (k : StartKeyOf) → HasLink n k new.lent → HasLink n k old.lent ⊎ ((link ≡ n) × (key ≡ k))
  pub leases : (n : ℕ) (client server : KeyView) → HasLease n client server new.keyed → HasLease n client server old.keyed
  pub may_return : (n : ℕ) → MayReturn n new → MayReturn n old ⊎ (link ≡ n)

-- no idle link and no ticket is new
pub record AddsNothing (old new : Book) : Type 0 where
  pub next_client : old.next_client ≤ new.next_client
  pub idle : (n : ℕ) (key : StartKeyOf) → HasLink n key new.idle → HasLink n key old.idle
  pub tickets : (client : ℕ) (key : StartKeyOf) → HasTicket client key new.tickets → HasTicket client key old.tickets

-- and no link is started or lent
pub record StartsNothing (old new : Book) : Type 0 where
  pub adds_nothing : AddsNothing old new
  pub next_link : new.next_link ≡ old.next_link
  pub lends_nothing : LendsNothing old new

-- a client gets the next number
pub record Numbers (old : Book) (client : ℕ) (new : Book) : Type 0 where
  pub number : client ≡ old.next_client
  pub next_client : new.next_client ≡ suc old.next_client
  pub starts_nothing : StartsNothing old new

-- one ticket may be new
pub record Queues (old : Book) (client : ℕ) (key : StartKeyOf) (new : Book) : Type 0 where
  pub idle : (n : ℕ) (k : StartKeyOf) → HasLink n k new.idle → HasLink n k old.idle
  pub tickets : (c : ℕ) (k : StartKeyOf) → HasTicket c k new.tickets → HasTicket c k old.tickets ⊎ ((client ≡ c) × (key ≡ k))
  pub next_client : new.next_client ≡ old.next_client
  pub next_link : new.next_link ≡ old.next_link
  pub lends_nothing : LendsNothing old new

-- an idle link with the key of a ticket of the client is idle no more, and is lent
pub record Lends (old : Book) (client link : ℕ) (new : Book) : Type 0 where
  pub key : StartKeyOf
  pub has_ticket : HasTicket client key old.tickets
  pub was_idle : HasLink link key old.idle
  pub not_idle : (n : ℕ) (k : StartKeyOf) → HasLink n k new.idle → n ≢ link
  pub adds_nothing : AddsNothing old new
  pub next_link : new.next_link ≡ old.next_link
  pub lends_one : LendsOne old link key new

-- the link of the next number is to be started, for a ticket of the client
pub record Starts (old : Book) (client link : ℕ) (new : Book) : Type 0 where
  pub key : StartKeyOf
  pub has_ticket : HasTicket client key old.tickets
  pub number : link ≡ old.next_link
  pub next_link : new.next_link ≡ suc old.next_link
  pub adds_nothing : AddsNothing old new
  pub lends_one : LendsOne old link key new

-- an idle link is idle no more
pub record Drops (old : Book) (link : ℕ) (new : Book) : Type 0 where
  pub key : StartKeyOf
  pub was_idle : HasLink link key old.idle
  pub not_idle : (n : ℕ) (k : StartKeyOf) → HasLink n k new.idle → n ≢ link

-- one idle link is new, and isn't lent any more
pub record TakesBack (old : Book) (link : ℕ) (key : StartKeyOf) (new : Book) : Type 0 where
  pub idle : (n : ℕ) (k : StartKeyOf) → HasLink n k new.idle → HasLink n k old.idle ⊎ ((link ≡ n) × (key ≡ k))
  pub tickets : (client : ℕ) (k : StartKeyOf) → HasTicket client k new.tickets → HasTicket client k old.tickets
  pub next_client : new.next_client ≡ old.next_client
  pub next_link : new.next_link ≡ old.next_link
  pub lends_nothing : LendsNothing old new
  pub not_lent : (k : StartKeyOf) → HasLink link k new.lent → ⊥

-- a lease of a lent link may be found from now on
pub record Keys (old : Book) (link : ℕ) (client server : KeyView) (new : Book) : Type 0 where
  pub key : StartKeyOf
  pub is_lent : HasLink link key old.lent
  pub adds_nothing : AddsNothing old new
  pub next_link : new.next_link ≡ old.next_link
  pub lent : (n : ℕ) (k : StartKeyOf) → HasLink n k new.lent → HasLink n k old.lent
  pub leases : (n : ℕ) (c s : KeyView) → HasLease n c s new.keyed → HasLease n c s old.keyed ⊎ ((link ≡ n) × (client ≡ c) × (server ≡ s))
  pub may_return : (n : ℕ) → MayReturn n new → MayReturn n old

-- a lease of the client's key word is struck, its link's key has a host, and its link may not return any more
pub record Strikes (old : Book) (client : KeyView) (link : ℕ) (server : KeyView) (new : Book) : Type 0 where
  pub lease : HasLease link client server old.keyed
  pub key : StartKeyOf
  pub is_lent : HasLink link key old.lent
  pub host : List ℕ
  pub host_is : key.host ≡ Some host
  pub starts_nothing : StartsNothing old new
  pub marks : MayReturn link new → ⊥

-- a lease ended without a mark, and no Cancel finds it
pub record Releases (old : Book) (link : ℕ) (new : Book) : Type 0 where
  pub could_return : MayReturn link old
  pub starts_nothing : StartsNothing old new
  pub no_lease : (client server : KeyView) → HasLease link client server new.keyed → ⊥

-- an event whose reply gives a client no number, queues no ticket and moves no link that isn't lost
pub data IsPlain : Event → Reply → Type 0 where
  turned_away : {beyond : Beyond} {refusal : Refusal} → IsPlain (Arrive beyond) (Refuse refusal)
  waits : {client before : ℕ} → IsPlain (Take client) (Queued before)
  waits_no_more : {client : ℕ} {refusal : Refusal} → IsPlain (Take client) (Refuse refusal)
  lost : {link : ℕ} {reply : Reply} → IsPlain (Lost link) reply
  start_failed : {link : ℕ} {reply : Reply} → IsPlain (StartFailed link) reply
  leave : {client : ℕ} {reply : Reply} → IsPlain (Leave client) reply
  ticks : {now : ℕ} → IsPlain (Tick now) Done
  makes : {change : Change} {reply : Reply} → IsPlain (Makes change) reply
  -- a lease ends, whatever becomes of its link then
  lease_ends : {link : ℕ} {reply : Reply} → IsPlain (EndLease link) reply

abbrev pub PlainEventsAddNothing : Type 0
PlainEventsAddNothing = (b : Book) (e : Event) (reply : Reply) → IsPlain e reply → (apply b e).reply ≡ reply → StartsNothing b (apply b e).book

abbrev pub ArrivalsNumber : Type 0
ArrivalsNumber = (b : Book) (beyond : Beyond) (client : ℕ) → (apply b (Arrive beyond)).reply ≡ Arrived client → Numbers b client (apply b (Arrive beyond)).book

abbrev pub AsksQueue : Type 0
AsksQueue = (b : Book) (client : ℕ) (key : StartKeyOf) → Queues b client key (apply b (Ask client key)).book

abbrev pub TakesLend : Type 0
TakesLend = (b : Book) (client link : ℕ) → (apply b (Take client)).reply ≡ Lend link → Lends b client link (apply b (Take client)).book

abbrev pub TakesStart : Type 0
TakesStart = (b : Book) (client link started_at : ℕ) → (apply b (Take client)).reply ≡ Start link started_at None → Starts b client link (apply b (Take client)).book

abbrev pub TakesEvict : Type 0
TakesEvict = (b : Book) (client link started_at old : ℕ) → (apply b (Take client)).reply ≡ Start link started_at (Some old) → Starts b client link (apply b (Take client)).book × Drops b old (apply b (Take client)).book

abbrev pub ReturnsAdd : Type 0
ReturnsAdd = (b : Book) (link : ℕ) (key : StartKeyOf) (started_at : ℕ) → (apply_return b link key started_at).reply ≡ Done → TakesBack b link key (apply_return b link key started_at).book

abbrev pub ReturnsClose : Type 0
ReturnsClose = (b : Book) (link closed : ℕ) (key : StartKeyOf) (started_at : ℕ) → (apply_return b link key started_at).reply ≡ Close closed → StartsNothing b (apply_return b link key started_at).book

abbrev pub TicksClose : Type 0
TicksClose = (b : Book) (now link : ℕ) → (apply b (Tick now)).reply ≡ Close link → StartsNothing b (apply b (Tick now)).book × Drops b link (apply b (Tick now)).book

-- the link that is closed is the one whose server hung up
abbrev pub HangUpsClose : Type 0
HangUpsClose = (b : Book) (link closed : ℕ) → (apply b (HungUp link)).reply ≡ Close closed → (closed ≡ link) × StartsNothing b (apply b (HungUp link)).book × Drops b closed (apply b (HungUp link)).book

abbrev pub KeyedKeys : Type 0
KeyedKeys = (b : Book) (link : ℕ) (client server : KeyView) → (apply b (Keyed link client server)).reply ≡ Done → Keys b link client server (apply b (Keyed link client server)).book

abbrev pub CancelsStrike : Type 0
CancelsStrike = (b : Book) (client : KeyView) (link : ℕ) (server : KeyView) → (apply b (Cancel client)).reply ≡ Strike link server → Strikes b client link server (apply b (Cancel client)).book

abbrev pub ResetsRelease : Type 0
ResetsRelease = (b : Book) (link : ℕ) → (apply b (EndLease link)).reply ≡ Reset → Releases b link (apply b (EndLease link)).book
