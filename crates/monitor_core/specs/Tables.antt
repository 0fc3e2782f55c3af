-- What monitors are shown of a pool, as rows of texts.
use Rattle.std.specs.Prelude.{ℕ, Bool, true, false, List, [], ◌∷◌, ◌++◌, ◌==◌, ◌+◌, ◌-◌, Option, Some, None, bytes_eq, codes, count_by, decimal, find, fold, if◌then◌else◌, length, map}
use Rattle.std.specs.List.{list_any}
use Rattle.mini_sql.specs.Words.{Text}
use Rattle.session_values.specs.State.{StartKeyOf}
use Rattle.ini_config.specs.declared.option_values.Settings.{Settings}
use Rattle.book_model.specs.Book.{Client, Link, Row, Ticket}
use Rattle.book_model.specs.declared.events.ClientState.{ClientState}
use Rattle.book_model.specs.declared.events.ClientState.TheVariants.{LoggingIn, Waiting, Active}
use Rattle.book_register.specs.Views.{View}
use Rattle.console_core.specs.Config as console
use Rattle.console_core.specs.Tables.{pool_counts, pool_keys, waits_in}
use Rattle.pool_figures.specs.declared.figures.Figures.{Figures}
use Rattle.pool_figures.specs.declared.seen.Activity.{Activity}
use Rattle.pool_figures.specs.declared.seen.Activity.TheVariants as at
use Rattle.pool_figures.specs.Figures as figures
use Rattle.pool_figures.specs.Seen.{ClientOf, DatabaseOf, SeenOf}

-- ---- what went through each database: PgBouncer's columns of 1.8, those of later releases behind them, and at the end one of earlier ones, `total_requests`

unfoldable pub stats_row : ℕ → DatabaseOf → List Text
stats_row period d =
    d.name ∷ map decimal (figures.totals d.total) ++ map decimal (figures.averages period d.recent)
    ++ map decimal (d.total.leases ∷ figures.ratio d.recent.leases period ∷ 0 ∷ 0 ∷ 0 ∷ 0 ∷ 0 ∷ 0 ∷ d.total.queries ∷ [])

abbrev pub stats : SeenOf → List (List Text)
stats x = map (stats_row x.period) x.databases

unfoldable pub totals_row : DatabaseOf → List Text
totals_row d = d.name ∷ map decimal (figures.totals d.total) ++ map decimal (d.total.leases ∷ 0 ∷ 0 ∷ 0 ∷ [])

abbrev pub totals : SeenOf → List (List Text)
totals x = map totals_row x.databases

unfoldable pub averages_row : ℕ → DatabaseOf → List Text
averages_row period d = d.name ∷ map decimal (figures.averages period d.recent) ++ map decimal (figures.ratio d.recent.leases period ∷ 0 ∷ 0 ∷ 0 ∷ [])

abbrev pub averages : SeenOf → List (List Text)
averages x = map (averages_row x.period) x.databases

-- through all together
abbrev pub sum_of : List DatabaseOf → Figures
sum_of databases = fold (λ f d. figures.plus f d.total) figures.none databases

abbrev pub named : Text → ℕ → List Text
named name n = name ∷ decimal n ∷ []

abbrev pub sum_rows : Figures → List (List Text)
sum_rows f =
    named (codes "total_server_assignment_count") f.leases ∷ named (codes "total_xact_count") f.transactions ∷ named (codes "total_query_count") f.queries
    ∷ named (codes "total_client_bytes") f.received ∷ named (codes "total_server_bytes") f.sent ∷ named (codes "total_xact_time") f.transaction_time
    ∷ named (codes "total_query_time") f.query_time ∷ named (codes "total_wait_time") f.wait_time ∷ []

abbrev pub sums : SeenOf → List (List Text)
sums x = sum_rows (sum_of x.databases)

-- ---- how many there are of what

abbrev pub is_logging_in : Client → Bool
is_logging_in c = is_login c.state
  where
    is_login : ClientState → Bool
    is_login LoggingIn = true
    is_login _ = false

abbrev pub lists : View → List Row → SeenOf → List (List Text)
lists v listed x =
    named (codes "databases") (length listed) ∷ named (codes "users") (length x.users) ∷ named (codes "peers") 0
    ∷ named (codes "pools") (length (pool_keys v)) ∷ named (codes "peer_pools") 0
    ∷ named (codes "free_clients") 0 ∷ named (codes "used_clients") (length v.clients) ∷ named (codes "login_clients") (count_by is_logging_in v.clients)
    ∷ named (codes "free_servers") 0 ∷ named (codes "used_servers") (figures.sum (length v.lent) (length v.idle))
    ∷ named (codes "dns_names") 0 ∷ named (codes "dns_zones") 0 ∷ named (codes "dns_queries") 0 ∷ named (codes "dns_pending") 0 ∷ []

-- ---- databases

abbrev pub is_to : Text → Link → Bool
is_to name l = bytes_eq l.key.row name

abbrev pub links_to : Text → View → ℕ
links_to name v = figures.sum (count_by (is_to name) v.lent) (count_by (is_to name) v.idle)

abbrev pub is_for : Text → Ticket → Bool
is_for name t = bytes_eq t.key.row name

-- the clients that have a link to it, or wait for one
abbrev pub clients_of : Text → View → ℕ
clients_of name v = figures.sum (count_by (is_to name) v.lent) (count_by (is_for name) v.tickets)

abbrev pub switch : Bool → ℕ
switch on = if on then 1 else 0

abbrev pub database_front : Row → List Text
database_front r = r.name ∷ r.host ∷ decimal r.port ∷ r.dbname ∷ [] ∷ map decimal (r.size ∷ 0 ∷ 0 ∷ []) ++ codes "session" ∷ []

unfoldable pub back_of : ℕ → ℕ → ℕ → ℕ → List Text
back_of links clients paused shut =
    map decimal (0 ∷ links ∷ paused ∷ shut ∷ 0 ∷ 0 ∷ []) ++ [] ∷ map decimal (0 ∷ clients ∷ [])

abbrev pub database_back : View → Row → List Text
database_back v r = back_of (links_to r.name v) (clients_of r.name v) (switch v.is_paused) (switch v.is_shut)

unfoldable pub database_row : View → Row → List Text
database_row v r = database_front r ++ database_back v r

abbrev pub databases : View → List Row → List (List Text)
databases v listed = map (database_row v) listed

-- ---- pools

abbrev pub waited : ℕ → Option Ticket → ℕ
waited clock None = 0
waited clock (Some t) = clock - t.since

-- the seconds for which the client has waited that asked first of those that wait in the pool
abbrev pub longest_wait : View → StartKeyOf → ℕ
longest_wait v pool = waited v.clock (find (waits_in pool) v.tickets)

unfoldable pub pool_row : View → StartKeyOf → List Text
pool_row v pool =
    pool.row ∷ pool.user ∷ map decimal (pool_counts v pool) ++ map decimal (0 ∷ 0 ∷ 0 ∷ longest_wait v pool ∷ 0 ∷ [])
    ++ codes "session" ∷ map decimal (0 ∷ 0 ∷ 0 ∷ 0 ∷ []) ++ [] ∷ []

-- the console, as PgBouncer shows it: a pool of its clients
abbrev pub is_at_console : ClientOf → Bool
is_at_console c = is_console c.activity
  where
    is_console : Activity → Bool
    is_console at.AtConsole = true
    is_console _ = false

unfoldable pub console_row : ℕ → List Text
console_row n =
    codes "pgbouncer" ∷ codes "pgbouncer" ∷ map decimal (n ∷ 0 ∷ 0 ∷ 0 ∷ 0 ∷ 0 ∷ 0 ∷ 0 ∷ 0 ∷ [])
    ++ codes "statement" ∷ map decimal (0 ∷ 0 ∷ 0 ∷ 0 ∷ []) ++ [] ∷ []

abbrev pub pools : View → SeenOf → List (List Text)
pools v x = map (pool_row v) (pool_keys v) ++ console_row (count_by is_at_console x.clients) ∷ []

-- ---- what the clients are at

abbrev pub activity_name : Activity → Text
activity_name at.LoggingIn = codes "login"
activity_name at.Waiting = codes "waiting"
activity_name at.Idle = codes "idle"
activity_name at.InTransaction = codes "idle in transaction"
activity_name at.InFailed = codes "idle in transaction (aborted)"
activity_name at.Running = codes "active"
activity_name at.AtConsole = codes "console"

-- a host, with brackets round what has colons
abbrev pub shown_host : Text → Text
shown_host host = if list_any (λ b. b == 58) host then 91 ∷ host ++ 93 ∷ [] else host

abbrev pub address : Text → ℕ → Text
address host port = shown_host host ++ 58 ∷ decimal port

abbrev pub activity_front : ClientOf → List Text
activity_front c = decimal c.number ∷ c.user ∷ c.database ∷ address c.host c.port ∷ decimal c.age ∷ activity_name c.activity ∷ []

abbrev pub activity_numbers : ClientOf → List ℕ
activity_numbers c = c.since ∷ c.link ∷ c.process ∷ c.figures.transactions ∷ c.figures.queries ∷ c.figures.received ∷ c.figures.sent ∷ []

unfoldable pub activity_row : ClientOf → List Text
activity_row c = activity_front c ++ map decimal (activity_numbers c)

abbrev pub activity : SeenOf → List (List Text)
activity x = map activity_row x.clients

-- ---- the pooler

abbrev pub answer_of : Bool → Text
answer_of on = if on then codes "yes" else codes "no"

abbrev pub pair : Text → Text → List Text
pair key value = key ∷ value ∷ []

abbrev pub is_active : View → Bool
is_active v = if v.is_paused then false else if v.is_shut then false else true

abbrev pub state : View → List (List Text)
state v =
    pair (codes "active") (answer_of (is_active v)) ∷ pair (codes "paused") (answer_of v.is_paused) ∷ pair (codes "suspended") (codes "no")
    ∷ pair (codes "shutting_down") (answer_of v.is_shut) ∷ []

-- no default is told, and none can be SET
abbrev pub config_row : List Text → List Text
config_row r = r ++ [] ∷ codes "no" ∷ []

abbrev pub config : Settings → List (List Text)
config s = map config_row (console.config s)

abbrev pub version : List (List Text)
version = (codes "pgsess 1 (PgBouncer 1.24.0 console)" ∷ []) ∷ []
