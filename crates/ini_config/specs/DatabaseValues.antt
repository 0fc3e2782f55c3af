-- The rows of the section [databases] (PgBouncer manual, "Section [databases]").
use Rattle.std.specs.Prelude.{ℕ, Bool, not, List, [], ◌∷◌, ◌==◌, ◌&&◌, ◌||◌, if◌then◌else◌, length, Option, Some, None, option_map, option_and_then, option_copied, unwrap_or, is_none, is_some, bytes_eq, codes}
use Rattle.std.specs.List.{list_any}
use Rattle.neutral_keys.specs.ReadOver.{is_read_over_in_row}
use Rattle.ini_config.specs.Hosts.{host_of}
use Rattle.ini_config.specs.Values.{parts, split_at_first, number_between}
use Rattle.ini_config.specs.declared.database_values.Items.{Items}
use Rattle.ini_config.specs.declared.database_values.RowText.{RowText}
use Rattle.ini_config.specs.declared.database_rows.DbRow.{DbRow}

-- what the items of a value say
pub record RowValues : Type 0 where
  pub host : Option (List ℕ)
  pub port : Option ℕ
  pub dbname : Option (List ℕ)
  pub pool_size : Option ℕ
  pub user : Option (List ℕ)
  pub password : Option (List ℕ)

-- a name that a StartupMessage can ask for, of a database or of a user: not empty, without a zero byte
abbrev pub is_database : List ℕ → Bool
is_database name = not (length name == 0) && not (list_any (λ b. b == 0) name)

abbrev pub is_user : List ℕ → Bool
is_user name = is_database name

-- one more item: each key at most once, but for those that are read over
abbrev pub with_item : RowValues → List ℕ → List ℕ → Option RowValues
with_item r key value =
    if bytes_eq key (codes "host") && is_none r.host then option_map (λ h. record r { host = Some h }) (host_of value) else (
    if bytes_eq key (codes "port") && is_none r.port then option_map (λ n. record r { port = Some n }) (number_between 1 65535 value) else (
    if bytes_eq key (codes "dbname") && is_none r.dbname then Some (record r { dbname = Some value }) else (
    if bytes_eq key (codes "pool_size") && is_none r.pool_size then option_map (λ n. record r { pool_size = Some n }) (number_between 1 10000 value) else (
    if (bytes_eq key (codes "user") && is_none r.user) && is_user value then Some (record r { user = Some value }) else (
    if (bytes_eq key (codes "password") && is_none r.password) && not (length value == 0) then Some (record r { password = Some value }) else (
    if is_read_over_in_row key value then Some r else None))))))

-- an item is a key and a value
abbrev pub with_text : RowValues → List ℕ → Option RowValues
with_text r item =
    if length item == 0 then Some r else option_and_then (λ p. with_item r p.0 p.1) (split_at_first 61 item)

abbrev pub with_texts : Option RowValues → List (List ℕ) → Option RowValues
with_texts r [] = r
with_texts r (item ∷ items) = with_texts (option_and_then (λ v. with_text v item) r) items

abbrev pub nothing_said : RowValues
nothing_said = record { host = None; port = None; dbname = None; pool_size = None; user = None; password = None }

-- the items of a value are parted by spaces
unfoldable pub values_in : List ℕ → Option RowValues
values_in value = with_texts (Some nothing_said) (parts 32 value)

-- the console's name
abbrev pub is_console : List ℕ → Bool
is_console name = bytes_eq name (codes "pgbouncer")

-- the host is required; the client's user is the server's where no other is said, and a password is that other's; the port is 5432, and the database the row's name, where nothing else is said
abbrev pub row_with : List ℕ → RowValues → List ℕ → Option DbRow
row_with name r host =
    let dbname = unwrap_or r.dbname name in
    if is_database dbname && (is_none r.password || is_some r.user) then Some (record { name = name; host = host; port = unwrap_or r.port 5432; dbname = dbname; pool_size = r.pool_size; user = r.user; password = r.password }) else None

unfoldable pub row_of : List ℕ → List ℕ → Option DbRow
row_of name value =
    if is_console name || list_any (λ b. b == 39) value then None
    else option_and_then (λ r. option_and_then (row_with name r) r.host) (values_in value)

-- the same of what was read
abbrev pub values_of : Items → RowValues
values_of items = record { host = option_copied items.host; port = items.port; dbname = option_copied items.dbname; pool_size = items.pool_size; user = option_copied items.user; password = option_copied items.password }

abbrev pub row_in : RowText → DbRow
row_in r = record { name = r.name.now; host = r.host.now; port = r.port; dbname = r.dbname.now; pool_size = r.pool_size; user = option_copied r.user; password = option_copied r.password }
