-- The clients and links of a pool, with PgBouncer's columns.
use Rattle.std.specs.Prelude.{ℕ, Bool, List, [], ◌∷◌, ◌++◌, ◌-◌, ◌*◌, ◌/◌, ◌%◌, ◌==◌, Option, Some, None, codes, decimal, find, if◌then◌else◌, map}
use Rattle.mini_sql.specs.Words.{Text}
use Rattle.book_model.specs.Book.{Client, Link}
use Rattle.book_model.specs.declared.events.ClientState.{ClientState}
use Rattle.book_model.specs.declared.events.ClientState.TheVariants.{LoggingIn, Waiting, Active}
use Rattle.book_register.specs.Views.{View}
use Rattle.console_core.specs.Tables.{client_state}
use Rattle.pool_figures.specs.Seen.{ClientOf, SeenOf}
use Rattle.monitor_core.specs.Times.{moment}

-- ---- links

abbrev pub host_text : Option (List ℕ) → Text
host_text None = []
host_text (Some host) = host

abbrev pub is_holder : ℕ → ClientOf → Bool
is_holder link c = c.link == link

-- the client that has a link, where it is seen
abbrev pub holder_of : ℕ → SeenOf → Option ClientOf
holder_of link x = find (is_holder link) x.clients

abbrev pub holder_text : Option ClientOf → Text
holder_text None = []
holder_text (Some c) = decimal c.number

abbrev pub process_of : Option ClientOf → ℕ
process_of None = 0
process_of (Some c) = c.process

-- the moment of a second of the book's clock
abbrev pub moment_of : View → SeenOf → ℕ → Text
moment_of v x second = moment (x.second - (v.clock - second))

unfoldable pub server_row : View → SeenOf → Text → Link → List Text
server_row v x state l =
    codes "S" ∷ l.key.user ∷ l.key.row ∷ state ∷ host_text l.key.host ∷ decimal l.key.port ∷ [] ∷ decimal 0
    ∷ moment_of v x l.started_at ∷ moment_of v x l.since ∷ map decimal (0 ∷ 0 ∷ 0 ∷ l.number ∷ []) ++ holder_text (holder_of l.number x)
    ∷ decimal (process_of (holder_of l.number x)) ∷ [] ∷ [] ∷ codes "none" ∷ map decimal (0 ∷ l.number ∷ [])

abbrev pub servers : View → SeenOf → List (List Text)
servers v x = map (server_row v x (codes "active")) v.lent ++ map (server_row v x (codes "idle")) v.idle

-- ---- clients

abbrev pub is_number : ℕ → ClientOf → Bool
is_number number c = c.number == number

-- what is seen of a client
abbrev pub seen_of : ℕ → SeenOf → Option ClientOf
seen_of number x = find (is_number number) x.clients

-- the moment so many milliseconds ago
abbrev pub moment_before : SeenOf → ℕ → Text
moment_before x ms = moment (x.second - ms / 1000)

-- how long a client has waited, where it does
abbrev pub waited : ClientState → ℕ → ℕ
waited Waiting ms = ms
waited state ms = 0

abbrev pub link_text : ℕ → Text
link_text link = if link == 0 then [] else decimal link

abbrev pub unseen_row : Client → List Text
unseen_row c =
    codes "C" ∷ [] ∷ [] ∷ client_state c.state ∷ [] ∷ decimal 0 ∷ [] ∷ decimal 0 ∷ [] ∷ [] ∷ map decimal (0 ∷ 0 ∷ 0 ∷ c.number ∷ [])
    ++ [] ∷ decimal 0 ∷ [] ∷ [] ∷ codes "none" ∷ map decimal (0 ∷ c.number ∷ [])

abbrev pub seen_front : SeenOf → Client → ClientOf → List Text
seen_front x c s =
    codes "C" ∷ s.user ∷ s.database ∷ client_state c.state ∷ s.host ∷ decimal s.port ∷ [] ∷ decimal 0
    ∷ moment_before x s.age ∷ moment_before x s.since ∷ []

abbrev pub seen_back : Client → ClientOf → List Text
seen_back c s =
    map decimal (waited c.state s.since / 1000 ∷ waited c.state s.since % 1000 * 1000 ∷ 0 ∷ c.number ∷ [])
    ++ link_text s.link ∷ decimal 0 ∷ [] ∷ [] ∷ codes "none" ∷ map decimal (0 ∷ c.number ∷ [])

abbrev pub seen_row : SeenOf → Client → ClientOf → List Text
seen_row x c s = seen_front x c s ++ seen_back c s

abbrev pub client_row : SeenOf → Client → Option ClientOf → List Text
client_row x c None = unseen_row c
client_row x c (Some s) = seen_row x c s

unfoldable pub row_of : SeenOf → Client → List Text
row_of x c = client_row x c (seen_of c.number x)

abbrev pub clients : View → SeenOf → List (List Text)
clients v x = map (row_of x) v.clients
