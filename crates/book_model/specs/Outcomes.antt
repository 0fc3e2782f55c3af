-- What happens to the book, and what it answers: of one event, the next lists and one reply.
use Rattle.std.specs.Prelude.{ℕ, suc, ◌+◌, ◌-◌, Bool, true, false, List, [], ◌∷◌, ◌++◌, Option, Some, None, not, cond, ◌==◌, ◌&&◌, ◌||◌, nat_le, nat_lt, length, find, map, count_by}
use Rattle.std.specs.List.{list_any}
use Rattle.message_view.specs.declared.refusal.Refusal.{Refusal}
use Rattle.message_view.specs.declared.refusal.Refusal.TheVariants.{TooManyClients, WaitedTooLong, ShuttingDown, LastDecision}
use Rattle.message_view.specs.declared.views.KeyView.{KeyView}
use Rattle.session_values.specs.State.{StartKeyOf}
use Rattle.start_keys.specs.Keys.{same_key}
use Rattle.book_model.specs.Book.{Book, Client, Lease, Limits, Link, Ticket, in_pool, is_client, is_fresh, is_link, is_listed, is_number, is_of, is_of_client, is_of_link, lendable, link_count, pool_count, places_beyond, pool_size, same_pool, waiting_before, with_number, without, without_client, without_lease, without_number, without_ticket}
use Rattle.book_model.specs.declared.counts.Counts.{Counts}
use Rattle.book_model.specs.declared.counts.Kind.{Kind}
use Rattle.book_model.specs.declared.counts.Kind.TheVariants.{Arrival, ArrivalRefused, Asking, AskRefused, Grant, TicketLost, Return, Loss, FailedStart, Leaving, Ticking, Limiting, Pausing, Resuming, Closing, Keying, Cancelling, LeaseEnding, HangUp, Reconnecting}
use Rattle.book_model.specs.declared.events.Beyond.{Beyond}
use Rattle.book_model.specs.declared.events.ClientState.{ClientState}
use Rattle.book_model.specs.declared.events.ClientState.TheVariants.{LoggingIn, Waiting, Active}
use Rattle.book_model.specs.declared.events.Reply.{Reply}
use Rattle.book_model.specs.declared.events.Reply.TheVariants.{Arrived, Queued, Lend, Start, Close, Refuse, Done, Stranger, Strike, Nobody, Reset, Dispose}

-- what is changed for all
pub data Change : Type 0 where
  NewLimits : Limits → Change
  Pause : Change
  Resume : Change
  Shutdown : Change
  -- no link that is there now is lent again
  Reconnect : Change

-- an event, with clients and links by their numbers
pub data Event : Type 0 where
  Arrive : (beyond : Beyond) → Event
  Ask : (client : ℕ) → (key : StartKeyOf) → Event
  Take : (client : ℕ) → Event
  GiveBack : (link : ℕ) → Event
  Lost : (link : ℕ) → Event
  StartFailed : (link : ℕ) → Event
  Leave : (client : ℕ) → Event
  Tick : (now : ℕ) → Event
  Makes : (change : Change) → Event
  -- a lent link serves the client of this key word, and its server told that one
  Keyed : (link : ℕ) → (client server : KeyView) → Event
  -- what the client of this key word is at is to be cancelled
  Cancel : (client : KeyView) → Event
  -- the lease of a link has ended
  EndLease : (link : ℕ) → Event
  -- the server of an idle link has hung up, or said something unasked
  HungUp : (link : ℕ) → Event

pub record Answer : Type 0 where
  pub book : Book
  pub reply : Reply

-- ---- a client comes, asks and leaves

abbrev pub arrives : Book → Beyond → Answer
arrives b beyond =
    cond b.is_shut (record { book = b; reply = Refuse ShuttingDown })
    (cond (nat_lt (length b.clients) (b.limits.max_clients + places_beyond beyond))
    (record { book = record b { clients = b.clients ++ record { number = b.next_client; state = LoggingIn } ∷ []; next_client = suc b.next_client }; reply = Arrived b.next_client })
    (record { book = b; reply = Refuse TooManyClients }))

-- a client's state becomes this
abbrev pub in_state : ClientState → ℕ → List Client → List Client
in_state state n clients = map (λ c. cond (is_client n c) (record c { state = state }) c) clients

abbrev pub asks : Book → ℕ → StartKeyOf → Answer
asks b client key =
    cond b.is_shut (record { book = b; reply = Refuse ShuttingDown })
    (record { book = record b { clients = in_state Waiting client b.clients; tickets = b.tickets ++ record { client = client; key = key; since = b.clock } ∷ [] }; reply = Queued (count_by (λ t. same_pool t.key key) b.tickets) })

abbrev pub leaves : Book → ℕ → Answer
leaves b client = record { book = record b { clients = without_client client b.clients; tickets = without_ticket client b.tickets }; reply = Done }

-- ---- a ticket is granted, lost, or waits

abbrev pub waits : Book → Ticket → Answer
waits b t = record { book = b; reply = Queued (waiting_before t.key t.client b.tickets) }

abbrev pub loses_ticket : Book → Ticket → Refusal → Answer
loses_ticket b t refusal = record { book = record b { tickets = without_ticket t.client b.tickets }; reply = Refuse refusal }

-- a link goes to the ticket's client
abbrev pub granted : Book → Ticket → Link → List Link → Book
granted b t link idle = record b { clients = in_state Active t.client b.clients; tickets = without_ticket t.client b.tickets; lent = b.lent ++ link ∷ []; idle = idle }

abbrev pub lends : Book → Ticket → Link → Answer
lends b t link = record { book = record (granted b t link (without link.number b.idle)) { reuses = suc b.reuses }; reply = Lend link.number }

-- a link is to be started
abbrev pub starts : Book → Ticket → List Link → Option ℕ → Answer
starts b t idle evicted = record {
  book = record (granted b t (record { number = b.next_link; key = t.key; started_at = b.clock; since = b.clock }) idle) { next_link = suc b.next_link; starts = suc b.starts };
  reply = Start b.next_link b.clock evicted;
}

-- a link is to be started in place of this one
abbrev pub evicts : Book → Ticket → Option Link → Answer
evicts b t None = waits b t
evicts b t (Some old) = starts (record b { evictions = suc b.evictions }) t (without old.number b.idle) (Some old.number)

-- the latest returned link of the key, where it is fresh; else a new one, where pool and book have room; else one in place of the longest idle
-- one, of the pool where the pool has no room, of the book where the book has none; else the ticket waits
abbrev pub grants : Book → Ticket → Option Link → Answer
grants b t (Some link) = lends b t link
grants b t None =
    cond (nat_lt (pool_count b t.key) (pool_size b.limits t.key))
    (cond (nat_lt (link_count b) b.limits.max_links) (starts b t b.idle None) (evicts b t (find (λ link. true) b.idle)))
    (evicts b t (find (in_pool t.key) b.idle))

abbrev pub has_waited : Book → Ticket → Bool
has_waited b t = not (b.limits.wait_timeout == 0) && nat_le b.limits.wait_timeout (b.clock - t.since)

abbrev pub takes : Book → Option Ticket → Answer
takes b None = record { book = b; reply = Stranger }
takes b (Some t) =
    cond b.is_shut (loses_ticket b t ShuttingDown)
    (cond (has_waited b t) (loses_ticket b t WaitedTooLong)
    (cond (b.is_paused || not (waiting_before t.key t.client b.tickets == 0)) (waits b t)
    (grants b t (lendable b.fresh_from t.key b.idle))))

-- ---- a link comes back, or is closed

abbrev pub is_old : Book → Link → Bool
is_old b link = nat_le b.limits.lifetime (b.clock - link.started_at) || (b.is_shut || not (is_fresh b.fresh_from link))

-- an idle link is closed at a tick, where it is old, where no database row is its key's any more, or where it lay idle for too long
abbrev pub is_stale : Book → Link → Bool
is_stale b link = is_old b link || (not (is_listed b.limits link.key) || (not (b.limits.idle_timeout == 0) && nat_le b.limits.idle_timeout (b.clock - link.since)))

abbrev pub is_crowded : Book → Link → Bool
is_crowded b link = nat_lt b.limits.max_links (link_count b) || nat_lt (pool_size b.limits link.key) (pool_count b link.key)

-- a link isn't lent any more, and nothing is known of its lease
abbrev pub loses : Book → ℕ → Book
loses b n = record b { lent = without n b.lent; keyed = without_lease n b.keyed; marked = without_number n b.marked; ended = without_number n b.ended }

abbrev pub gives_back : Book → Option Link → Answer
gives_back b None = record { book = b; reply = Stranger }
gives_back b (Some link) =
    cond (is_old b link || is_crowded b link) (record { book = loses b link.number; reply = Close link.number })
    (record { book = record (loses b link.number) { idle = b.idle ++ record link { since = b.clock } ∷ [] }; reply = Done })

abbrev pub closes : Book → Option Link → Answer
closes b None = record { book = b; reply = Done }
closes b (Some link) = record { book = record b { idle = without link.number b.idle }; reply = Close link.number }

-- the greatest second of any tick
abbrev pub at_clock : Book → ℕ → Book
at_clock b now = record b { clock = cond (nat_lt b.clock now) now b.clock }

-- An idle link is closed whose server has hung up. One that isn't idle any more is left to who has it.
abbrev pub hangs_up : Book → Option Link → Answer
hangs_up b None = record { book = b; reply = Nobody }
hangs_up b (Some link) = record { book = record b { idle = without link.number b.idle }; reply = Close link.number }

-- ---- leases and cancels

abbrev pub keys : Book → ℕ → KeyView → KeyView → Answer
keys b n client server = record { book = record b { keyed = b.keyed ++ record { link = n; client = client; server = server } ∷ [] }; reply = Done }

-- The cancel is for the link's server, at the place of its start key, and the link is marked. (No link is asked for by a key without a host.)
abbrev pub strikes : Book → Lease → Option (List ℕ) → Answer
strikes b lease None = record { book = b; reply = Nobody }
strikes b lease (Some host) = record { book = record b { marked = with_number lease.link b.marked }; reply = Strike lease.link lease.server }

abbrev pub strikes_at : Book → Lease → Option Link → Answer
strikes_at b lease None = record { book = b; reply = Nobody }
strikes_at b lease (Some link) = strikes b lease link.key.host

abbrev pub cancels : Book → Option Lease → Answer
cancels b None = record { book = b; reply = Nobody }
cancels b (Some lease) = strikes_at b lease (find (is_link lease.link) b.lent)

abbrev pub ends_lease : Book → ℕ → Answer
ends_lease b n = record { book = record b { keyed = without_lease n b.keyed; ended = with_number n b.ended }; reply = cond (list_any (is_number n) b.marked) Dispose Reset }

-- ---- what is changed for all

abbrev pub changed : Change → Book → Book
changed (NewLimits limits) b = record b { limits = limits }
changed Pause b = record b { is_paused = true }
changed Resume b = record b { is_paused = false }
changed Shutdown b = record b { is_shut = true }
changed Reconnect b = record b { fresh_from = b.next_link }

-- what an event gives whose client, ticket or link is there
abbrev pub outcome : Book → Event → Answer
outcome b (Arrive beyond) = arrives b beyond
outcome b (Ask client key) = asks b client key
outcome b (Take client) = takes b (find (is_of client) b.tickets)
outcome b (GiveBack n) = gives_back b (find (is_link n) b.lent)
outcome b (Lost n) = record { book = record (loses b n) { losses = suc b.losses }; reply = Done }
outcome b (StartFailed n) = record { book = record (loses b n) { losses = suc b.losses }; reply = Done }
outcome b (Leave client) = leaves b client
outcome b (Tick now) = closes (at_clock b now) (find (is_stale (at_clock b now)) b.idle)
outcome b (Makes change) = record { book = changed change b; reply = Done }
outcome b (Keyed n client server) = keys b n client server
outcome b (Cancel client) = cancels b (find (is_of_client client) b.keyed)
outcome b (EndLease n) = ends_lease b n
outcome b (HungUp n) = hangs_up b (find (is_link n) b.idle)

-- ---- strangers

-- a client or link that isn't there, a second ticket, or a lease that was keyed or has ended
abbrev pub is_strange : Book → Event → Bool
is_strange b (Ask client key) = not (list_any (is_client client) b.clients) || list_any (is_of client) b.tickets
is_strange b (Take client) = not (list_any (is_of client) b.tickets)
is_strange b (GiveBack n) = not (list_any (is_link n) b.lent)
is_strange b (Lost n) = not (list_any (is_link n) b.lent)
is_strange b (StartFailed n) = not (list_any (is_link n) b.lent)
is_strange b (Leave client) = not (list_any (is_client client) b.clients)
is_strange b (Keyed n client server) = not (list_any (is_link n) b.lent) || (list_any (is_of_link n) b.keyed || list_any (is_number n) b.ended)
is_strange b (EndLease n) = not (list_any (is_link n) b.lent)
is_strange b _ = false

-- ---- decisions

abbrev pub kind_of_change : Change → Kind
kind_of_change (NewLimits limits) = Limiting
kind_of_change Pause = Pausing
kind_of_change Resume = Resuming
kind_of_change Shutdown = Closing
kind_of_change Reconnect = Reconnecting

-- The kind of an event with this reply; none, where it changed nothing: a Take that waits on, a Tick that neither raised the clock
-- nor closed a link, a Cancel that found nobody, and a HungUp of a link that isn't idle.
abbrev pub kind_of : Book → Event → Reply → Option Kind
kind_of b (Arrive beyond) (Refuse refusal) = Some ArrivalRefused
kind_of b (Arrive beyond) _ = Some Arrival
kind_of b (Ask client key) (Refuse refusal) = Some AskRefused
kind_of b (Ask client key) _ = Some Asking
kind_of b (Take client) (Queued n) = None
kind_of b (Take client) (Refuse refusal) = Some TicketLost
kind_of b (Take client) _ = Some Grant
kind_of b (GiveBack n) _ = Some Return
kind_of b (Lost n) _ = Some Loss
kind_of b (StartFailed n) _ = Some FailedStart
kind_of b (Leave client) _ = Some Leaving
kind_of b (Tick now) Done = cond (nat_lt b.clock now) (Some Ticking) None
kind_of b (Tick now) _ = Some Ticking
kind_of b (Makes change) _ = Some (kind_of_change change)
kind_of b (Keyed n client server) _ = Some Keying
kind_of b (Cancel client) Nobody = None
kind_of b (Cancel client) _ = Some Cancelling
kind_of b (EndLease n) _ = Some LeaseEnding
kind_of b (HungUp n) Nobody = None
kind_of b (HungUp n) _ = Some HangUp

abbrev pub raised : Kind → Counts → Counts
raised Arrival c = record c { arrived = suc c.arrived }
raised ArrivalRefused c = record c { arrivals_refused = suc c.arrivals_refused }
raised Asking c = record c { asked = suc c.asked }
raised AskRefused c = record c { asks_refused = suc c.asks_refused }
raised Grant c = record c { granted = suc c.granted }
raised TicketLost c = record c { tickets_lost = suc c.tickets_lost }
raised Return c = record c { given_back = suc c.given_back }
raised Loss c = record c { lost = suc c.lost }
raised FailedStart c = record c { starts_failed = suc c.starts_failed }
raised Leaving c = record c { left = suc c.left }
raised Ticking c = record c { ticked = suc c.ticked }
raised Limiting c = record c { limited = suc c.limited }
raised Pausing c = record c { paused = suc c.paused }
raised Resuming c = record c { resumed = suc c.resumed }
raised Closing c = record c { shut_down = suc c.shut_down }
raised Keying c = record c { keyed = suc c.keyed }
raised Cancelling c = record c { cancelled = suc c.cancelled }
raised LeaseEnding c = record c { leases_ended = suc c.leases_ended }
raised HangUp c = record c { hung_up = suc c.hung_up }
raised Reconnecting c = record c { reconnected = suc c.reconnected }

abbrev pub counted : Book → Option Kind → Book
counted b None = b
counted b (Some kind) = record b { decisions = suc b.decisions; counts = raised kind b.counts }

abbrev pub decided : Book → Event → Answer → Answer
decided b e a = record { book = counted a.book (kind_of b e a.reply); reply = a.reply }

-- the greatest number of decisions: 2^64 - 1
abbrev pub last_decision : ℕ
last_decision = 18446744073709551615

unfoldable pub apply : Book → Event → Answer
apply b e =
    cond (b.decisions == last_decision) (record { book = b; reply = Refuse LastDecision })
    (cond (is_strange b e) (record { book = b; reply = Stranger })
    (decided b e (outcome b e)))

-- ---- a link that is given back must be of the key and birth of its start

abbrev pub is_started_as : StartKeyOf → ℕ → Option Link → Bool
is_started_as key started_at None = false
is_started_as key started_at (Some link) = same_key link.key key && link.started_at == started_at

unfoldable pub apply_return : Book → ℕ → StartKeyOf → ℕ → Answer
apply_return b n key started_at =
    cond (b.decisions == last_decision) (record { book = b; reply = Refuse LastDecision })
    (cond (is_started_as key started_at (find (is_link n) b.lent)) (apply b (GiveBack n)) (record { book = b; reply = Stranger }))
