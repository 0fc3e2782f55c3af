-- The lease book as plain lists: who is there, who waits, and which links there are.
use Rattle.std.specs.Prelude.{ℕ, Bool, false, List, [], ◌∷◌, ◌++◌, Option, Some, None, not, cond, ◌==◌, ◌&&◌, ◌+◌, codes, length, nat_le, filter, find, count_by, option_map, bytes_eq}
use Rattle.message_view.specs.declared.views.KeyView.{KeyView}
use Rattle.session_values.specs.State.{StartKeyOf}
use Rattle.start_keys.specs.Keys.{same_host, same_key}
use Rattle.book_model.specs.declared.counts.Counts.{Counts}
use Rattle.book_model.specs.declared.events.Beyond.{Beyond}
use Rattle.book_model.specs.declared.events.Beyond.TheVariants as beyond
use Rattle.book_model.specs.declared.events.ClientState.{ClientState}
use Rattle.book_model.specs.declared.events.TheConstants.{CONSOLE_PLACES, LOCAL_PLACES}

pub record Client : Type 0 where
  pub number : ℕ
  -- in its login; waiting, from its Ask until a Take of it is granted; active
  pub state : ClientState

-- a client waits for a link of this key, since this second
pub record Ticket : Type 0 where
  pub client : ℕ
  pub key : StartKeyOf
  pub since : ℕ

-- `started_at`: the second of its start; `since`: that of its last return, or of its start
pub record Link : Type 0 where
  pub number : ℕ
  pub key : StartKeyOf
  pub started_at : ℕ
  pub since : ℕ

-- a lease of a lent link, with the key words of its client and of its server
pub record Lease : Type 0 where
  pub link : ℕ
  pub client : KeyView
  pub server : KeyView

-- a database row: its name, where its server is, and how many links a pool of it may have
pub record Row : Type 0 where
  pub name : List ℕ
  pub host : List ℕ
  pub port : ℕ
  pub dbname : List ℕ
  pub size : ℕ

-- seconds; a wait or idle timeout of 0 is none
pub record Limits : Type 0 where
  pub rows : List Row
  pub max_clients : ℕ
  pub default_size : ℕ
  pub max_links : ℕ
  pub wait_timeout : ℕ
  pub lifetime : ℕ
  pub idle_timeout : ℕ

-- clients in the order of Arrive, tickets in that of Ask, lent links in that of their Take, idle ones in that of their return
pub record Book : Type 0 where
  pub clients : List Client
  pub tickets : List Ticket
  pub lent : List Link
  pub idle : List Link
  -- the leases that a Cancel finds, in the order of their Keyed
  pub keyed : List Lease
  -- the lent links that a Cancel found, and those whose lease has ended
  pub marked : List ℕ
  pub ended : List ℕ
  pub next_client : ℕ
  pub next_link : ℕ
  pub clock : ℕ
  pub limits : Limits
  pub is_paused : Bool
  pub is_shut : Bool
  -- the first number of a link that may still be lent again
  pub fresh_from : ℕ
  -- all decisions, and those of each kind
  pub decisions : ℕ
  pub counts : Counts
  -- links started, lent again, closed for another's start, and lost or failed
  pub starts : ℕ
  pub reuses : ℕ
  pub evictions : ℕ
  pub losses : ℕ

abbrev pub no_counts : Counts
no_counts = record { arrived = 0; arrivals_refused = 0; asked = 0; asks_refused = 0; granted = 0; tickets_lost = 0; given_back = 0; lost = 0; starts_failed = 0; left = 0; ticked = 0; limited = 0; paused = 0; resumed = 0; shut_down = 0; keyed = 0; cancelled = 0; leases_ended = 0; hung_up = 0; reconnected = 0 }

abbrev pub empty_book : Limits → Book
empty_book limits = record { clients = []; tickets = []; lent = []; idle = []; keyed = []; marked = []; ended = []; next_client = 1; next_link = 1; clock = 0; limits = limits; is_paused = false; is_shut = false; fresh_from = 1; decisions = 0; counts = no_counts; starts = 0; reuses = 0; evictions = 0; losses = 0 }

-- how many places beyond the limit
abbrev pub places_beyond : Beyond → ℕ
places_beyond beyond.Nothing = 0
places_beyond beyond.Console = CONSOLE_PLACES
places_beyond beyond.LocalConsole = LOCAL_PLACES

abbrev pub or_else : {A : Type 0} → Option A → Option A → Option A
or_else None other = other
or_else (Some x) other = Some x

-- ---- pools: a pool is a database's name and a user

abbrev pub same_pool : StartKeyOf → StartKeyOf → Bool
same_pool a b = bytes_eq a.row b.row && bytes_eq a.user b.user

-- the first of this name
abbrev pub row_named : List ℕ → List Row → Option Row
row_named name rows = find (λ row. bytes_eq name row.name) rows

-- the row by which databases are served that no other row names, and the longest name that PostgreSQL has
abbrev pub wildcard : List ℕ
wildcard = codes "*"

abbrev pub longest_name : ℕ
longest_name = 63

-- a row of another name: `*` is that for the server's database where no other is said
abbrev pub row_as : List ℕ → Row → Row
row_as name row = record row { name = name; dbname = cond (bytes_eq row.dbname wildcard) name row.dbname }

-- `*`'s, under the name of the database
abbrev pub wildcard_row : List ℕ → List Row → Option Row
wildcard_row name rows = cond (nat_le (length name) longest_name) (option_map (row_as name) (row_named wildcard rows)) None

-- the row that serves a database: that of its name, else `*`'s
abbrev pub row_for : List ℕ → List Row → Option Row
row_for name rows = or_else (row_named name rows) (wildcard_row name rows)

abbrev pub size_of : ℕ → Option Row → ℕ
size_of default None = default
size_of default (Some row) = row.size

abbrev pub pool_size : Limits → StartKeyOf → ℕ
pool_size limits pool = size_of limits.default_size (row_for pool.row limits.rows)

-- ---- a key's row: the one that serves its database, where that has the key's server

abbrev pub leads_to : Row → StartKeyOf → Bool
leads_to row key = same_host (Some row.host) key.host && (row.port == key.port && bytes_eq row.dbname key.dbname)

abbrev pub is_row_of : StartKeyOf → Option Row → Bool
is_row_of key None = false
is_row_of key (Some row) = leads_to row key

-- whether the limits have a database row for the key's name, with its host, port and dbname
abbrev pub is_listed : Limits → StartKeyOf → Bool
is_listed limits key = is_row_of key (row_for key.row limits.rows)

-- ---- links

abbrev pub in_pool : StartKeyOf → Link → Bool
in_pool pool link = same_pool link.key pool

-- the links of a pool, and all
abbrev pub pool_count : Book → StartKeyOf → ℕ
pool_count b pool = count_by (in_pool pool) b.lent + count_by (in_pool pool) b.idle

abbrev pub link_count : Book → ℕ
link_count b = length b.lent + length b.idle

-- ---- who is there

abbrev pub is_client : ℕ → Client → Bool
is_client n c = c.number == n

abbrev pub is_of : ℕ → Ticket → Bool
is_of client t = t.client == client

abbrev pub is_link : ℕ → Link → Bool
is_link n link = link.number == n

abbrev pub without : ℕ → List Link → List Link
without n links = filter (λ link. not (is_link n link)) links

abbrev pub without_ticket : ℕ → List Ticket → List Ticket
without_ticket client tickets = filter (λ t. not (is_of client t)) tickets

abbrev pub without_client : ℕ → List Client → List Client
without_client n clients = filter (λ c. not (is_client n c)) clients

-- how many tickets of a pool stand before a client's
abbrev pub waiting_before : StartKeyOf → ℕ → List Ticket → ℕ
waiting_before pool client [] = 0
waiting_before pool client (t ∷ ts) = cond (is_of client t) 0 (cond {A = ℕ} (same_pool t.key pool) 1 0 + waiting_before pool client ts)

-- the last that passes
abbrev pub find_last : {A : Type 0} → (A → Bool) → List A → Option A
find_last test [] = None
find_last test (x ∷ xs) = or_else (find_last test xs) (cond (test x) (Some x) None)

-- the latest returned link of this key
abbrev pub latest_of : StartKeyOf → List Link → Option Link
latest_of key idle = find_last (λ link. same_key link.key key) idle

-- a link that was there at the last Reconnect isn't fresh
abbrev pub is_fresh : ℕ → Link → Bool
is_fresh fresh_from link = nat_le fresh_from link.number

-- where it is fresh
abbrev pub if_fresh : ℕ → Option Link → Option Link
if_fresh fresh_from None = None
if_fresh fresh_from (Some link) = cond (is_fresh fresh_from link) (Some link) None

-- the link of this key that may be lent: the latest returned one, where it is fresh (those that aren't went back before all that are)
abbrev pub lendable : ℕ → StartKeyOf → List Link → Option Link
lendable fresh_from key idle = if_fresh fresh_from (latest_of key idle)

-- ---- leases

abbrev pub same_words : KeyView → KeyView → Bool
same_words a b = a.pid == b.pid && a.secret == b.secret

abbrev pub is_of_link : ℕ → Lease → Bool
is_of_link n lease = lease.link == n

abbrev pub is_of_client : KeyView → Lease → Bool
is_of_client client lease = same_words lease.client client

abbrev pub without_lease : ℕ → List Lease → List Lease
without_lease n leases = filter (λ lease. not (is_of_link n lease)) leases

abbrev pub is_number : ℕ → ℕ → Bool
is_number n m = m == n

abbrev pub without_number : ℕ → List ℕ → List ℕ
without_number n numbers = filter (λ m. not (is_number n m)) numbers

-- the number stands once, and last
abbrev pub with_number : ℕ → List ℕ → List ℕ
with_number n numbers = without_number n numbers ++ n ∷ []
