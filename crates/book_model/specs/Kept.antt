-- What holds of every book that was made empty and had events.
use Rattle.std.specs.Prelude.{◌≡◌, ℕ, suc, ◌+◌, ◌≤◌, ◌&&◌, true, List, [], ◌∷◌, count_by, length}
use Rattle.session_values.specs.State.{StartKeyOf}
use Rattle.start_keys.specs.Keys.{same_key}
use Rattle.book_model.specs.Book.{Book, Client, Lease, Limits, Link, Ticket, empty_book, find_last, is_client, is_fresh, is_link, is_number, is_of, is_of_link, lendable}
use Rattle.book_model.specs.Outcomes.{Event, apply, apply_return}
use Rattle.book_model.specs.Outcomes.Change.{NewLimits}
use Rattle.book_model.specs.Outcomes.Event.{Makes}
use Rattle.book_model.specs.declared.counts.Counts.{Counts}
use Rattle.book_model.specs.declared.limits.TheConstants.{MAX_CLIENTS, MAX_LINKS, MAX_PRESENT}

-- each client number stands once and below the next, and each ticket is its client's only one
pub record KeptClients (clients : List Client) (tickets : List Ticket) (next : ℕ) : Type 0 where
  pub fit : length clients ≤ MAX_PRESENT
  pub once : (n : ℕ) → count_by (is_client n) clients ≤ 1
  pub fresh : (n : ℕ) → next ≤ n → count_by (is_client n) clients ≡ 0
  pub of_clients : (n : ℕ) → count_by (is_of n) tickets ≤ count_by (is_client n) clients

-- each link number stands once, lent or idle, and below the next
pub record KeptLinks (lent idle : List Link) (next : ℕ) : Type 0 where
  pub fit : length lent + length idle ≤ MAX_LINKS
  pub once : (n : ℕ) → count_by (is_link n) lent + count_by (is_link n) idle ≤ 1
  pub fresh : (n : ℕ) → next ≤ n → count_by (is_link n) lent + count_by (is_link n) idle ≡ 0

abbrev pub AreFresh : ℕ → List Link → Type 0
AreFresh first [] = Unit {0}
AreFresh first (link ∷ links) = (is_fresh first link ≡ true) × AreFresh first links

-- those that aren't fresh stand before all that are
abbrev pub StaleFirst : ℕ → List Link → Type 0
StaleFirst first [] = Unit {0}
StaleFirst first (link ∷ links) = (is_fresh first link ≡ true → AreFresh first links) × StaleFirst first links

-- every link that is started is fresh, and the idle ones that aren't went back before those that are
pub record KeptFresh (idle : List Link) (first next : ℕ) : Type 0 where
  pub next_too : first ≤ next
  pub in_order : StaleFirst first idle

-- each lease is its lent link's only one, and each mark and end is a lent link's, and stands once
pub record KeptLeases (lent : List Link) (leases : List Lease) (marks ends : List ℕ) : Type 0 where
  pub keyed : (n : ℕ) → count_by (is_of_link n) leases ≤ count_by (is_link n) lent
  pub marked : (n : ℕ) → count_by (is_number n) marks ≤ count_by (is_link n) lent
  pub ended : (n : ℕ) → count_by (is_number n) ends ≤ count_by (is_link n) lent

-- all kinds together
abbrev pub total : Counts → ℕ
total c = c.arrived + c.arrivals_refused + c.asked + c.asks_refused + c.granted + c.tickets_lost + c.given_back + c.lost + c.starts_failed + c.left + c.ticked + c.limited + c.paused + c.resumed + c.shut_down + c.keyed + c.cancelled + c.leases_ended + c.hung_up + c.reconnected

-- the counts agree with one another and with the lists
pub record KeptCounts (b : Book) : Type 0 where
  pub all : total b.counts ≡ b.decisions
  pub clients : b.next_client ≡ suc b.counts.arrived
  pub links : b.next_link ≡ suc b.starts
  pub grants : b.starts + b.reuses ≡ b.counts.granted
  pub evicted : b.evictions ≤ b.starts
  pub losses : b.losses ≡ b.counts.lost + b.counts.starts_failed
  pub lent : length b.lent + b.counts.given_back + b.losses ≡ b.counts.granted

pub record KeptLimits (l : Limits) : Type 0 where
  pub clients : l.max_clients ≤ MAX_CLIENTS
  pub links : l.max_links ≤ MAX_LINKS

-- new limits fit, too
abbrev pub FitsLimits : Event → Type 0
FitsLimits (Makes (NewLimits limits)) = KeptLimits limits
FitsLimits _ = Unit {0}

pub record Kept (b : Book) : Type 0 where
  pub clients : KeptClients b.clients b.tickets b.next_client
  pub links : KeptLinks b.lent b.idle b.next_link
  pub fresh : KeptFresh b.idle b.fresh_from b.next_link
  pub leases : KeptLeases b.lent b.keyed b.marked b.ended
  pub counts : KeptCounts b
  pub limits : KeptLimits b.limits

-- Every event leaves a book in order that was in order.
abbrev pub EventsKeep : Type 0
EventsKeep = (b : Book) (e : Event) → FitsLimits e → Kept b → Kept (apply b e).book

-- So does the return of a link, and an empty book is in order.
abbrev pub ReturnsKeep : Type 0
ReturnsKeep = (b : Book) (n : ℕ) (key : StartKeyOf) (started_at : ℕ) → Kept b → Kept (apply_return b n key started_at).book

abbrev pub EmptyBooksAreKept : Type 0
EmptyBooksAreKept = (limits : Limits) → KeptLimits limits → Kept (empty_book limits)

-- The link of a key that may be lent is the latest returned one of those that are fresh.
abbrev pub LatestFreshIsLent : Type 0
LatestFreshIsLent = (b : Book) (key : StartKeyOf) → Kept b → lendable b.fresh_from key b.idle ≡ find_last (λ link. same_key link.key key && is_fresh b.fresh_from link) b.idle
