-- What the console shows of a lease book, as rows of texts.
use Rattle.std.specs.Prelude.{ℕ, Bool, List, [], ◌∷◌, ◌++◌, codes, count_by, decimal, fold, if◌then◌else◌, insert, length, map, nat_le, take_while, ◌&&◌, ◌||◌, bytes_eq}
use Rattle.std.specs.List.{list_any}
use Rattle.mini_sql.specs.Words.{Text}
use Rattle.session_values.specs.Lawful.{is_before}
use Rattle.session_values.specs.State.{StartKeyOf}
use Rattle.book_model.specs.Book.{Client, Link, Ticket, in_pool, same_pool}
use Rattle.book_model.specs.declared.events.ClientState.{ClientState}
use Rattle.book_model.specs.declared.events.ClientState.TheVariants.{LoggingIn, Waiting, Active}
use Rattle.book_register.specs.Views.{View}

-- ---- clients and links, by number

pub record Numbered : Type 0 where
  pub number : ℕ
  pub cells : List Text

-- with a row more, behind those in front that have no greater number
abbrev pub with_row : List Numbered → Numbered → List Numbered
with_row rows row = insert rows (length (take_while (λ r. nat_le r.number row.number) rows)) row

abbrev pub in_order : List Numbered → List (List Text)
in_order rows = map (λ r. r.cells) (fold with_row [] rows)

abbrev pub client_state : ClientState → Text
client_state LoggingIn = codes "login"
client_state Waiting = codes "waiting"
client_state Active = codes "active"

abbrev pub client_row : Client → Numbered
client_row c = record { number = c.number; cells = decimal c.number ∷ client_state c.state ∷ [] }

abbrev pub link_row : Text → Link → Numbered
link_row state l = record { number = l.number; cells = decimal l.number ∷ l.key.row ∷ l.key.user ∷ state ∷ [] }

abbrev pub clients : View → List (List Text)
clients v = in_order (map client_row v.clients)

abbrev pub servers : View → List (List Text)
servers v = in_order (map (link_row (codes "active")) v.lent ++ map (link_row (codes "idle")) v.idle)

-- ---- pools, each by a key of its own: by database, then user

abbrev pub is_pool_before : StartKeyOf → StartKeyOf → Bool
is_pool_before a b = is_before a.row b.row || (bytes_eq a.row b.row && is_before a.user b.user)

abbrev pub place_of : StartKeyOf → List StartKeyOf → ℕ
place_of key pools = length (take_while (λ p. is_pool_before p key) pools)

-- with the key's pool at its place, where it isn't there yet
abbrev pub with_pool : List StartKeyOf → StartKeyOf → List StartKeyOf
with_pool pools key = if list_any (λ p. same_pool p key) pools then pools else insert pools (place_of key pools) key

abbrev pub ticket_keys : List Ticket → List StartKeyOf
ticket_keys tickets = map (λ t. t.key) tickets

abbrev pub link_keys : List Link → List StartKeyOf
link_keys links = map (λ l. l.key) links

-- those with a client's ticket or a link
abbrev pub pool_keys : View → List StartKeyOf
pool_keys v = fold with_pool [] (ticket_keys v.tickets ++ link_keys v.lent ++ link_keys v.idle)

abbrev pub waits_in : StartKeyOf → Ticket → Bool
waits_in pool ticket = same_pool ticket.key pool

abbrev pub tickets_in : StartKeyOf → List Ticket → ℕ
tickets_in pool tickets = count_by (waits_in pool) tickets

abbrev pub links_in : StartKeyOf → List Link → ℕ
links_in pool links = count_by (in_pool pool) links

-- cl_active, cl_waiting, sv_active, sv_idle: a lent link counts as an active client and as an active server
abbrev pub pool_counts : View → StartKeyOf → List ℕ
pool_counts v pool = links_in pool v.lent ∷ tickets_in pool v.tickets ∷ links_in pool v.lent ∷ links_in pool v.idle ∷ []

unfoldable pub pool_row : View → StartKeyOf → List Text
pool_row v pool = pool.row ∷ pool.user ∷ map decimal (pool_counts v pool)

abbrev pub pools : View → List (List Text)
pools v = map (pool_row v) (pool_keys v)

-- ---- one row

abbrev pub version : List (List Text)
version = (codes "pgsess 1" ∷ []) ∷ []

abbrev pub totals : View → List (List Text)
totals v = map decimal (v.decisions ∷ v.starts ∷ v.reuses ∷ v.evictions ∷ v.losses ∷ []) ∷ []
