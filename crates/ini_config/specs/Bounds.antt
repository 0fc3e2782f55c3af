-- What every settings file that is read keeps to, whatever it says.
use Rattle.std.specs.Prelude.{ℕ, ◌≡◌, ◌≤◌, true, List, Option, Some, None, Ok}
use Rattle.std.specs.List.{AllByRecursion}
use Rattle.ini_config.specs.DatabaseValues.{is_database, is_user}
use Rattle.ini_config.specs.OptionValues.{Text}
use Rattle.ini_config.specs.Reading.{IsReadOf}
use Rattle.ini_config.specs.declared.database_rows.DbRow.{DbRow}
use Rattle.ini_config.specs.declared.option_values.Settings.{Settings}

abbrev pub IsWithin : ℕ → ℕ → ℕ → Type 0
IsWithin low high n = (low ≤ n) × (n ≤ high)

-- a count of clients or links, and a time in seconds
abbrev pub IsCount : ℕ → Type 0
IsCount n = IsWithin 1 10000 n

abbrev pub IsTime : ℕ → Type 0
IsTime n = IsWithin 0 2147483647 n

-- where a size is said, it is a count
abbrev pub IsSize : Option ℕ → Type 0
IsSize None = Unit {0}
IsSize (Some n) = IsCount n

-- where a user is said, a server can have one of that name
abbrev pub IsUser : Option (List ℕ) → Type 0
IsUser None = Unit {0}
IsUser (Some user) = is_user user ≡ true

-- a row names a database and perhaps a user that a server can have, on a port of TCP
pub record IsServedRow (row : DbRow) : Type 0 where
  pub database : is_database row.dbname ≡ true
  pub port : IsWithin 1 65535 row.port
  pub size : IsSize row.pool_size
  pub user : IsUser row.user

pub record AreWithinBounds (s : Settings) : Type 0 where
  pub rows : AllByRecursion IsServedRow s.rows
  pub listen_port : IsWithin 1 65535 s.listen_port
  pub max_client_conn : IsCount s.max_client_conn
  pub default_pool_size : IsCount s.default_pool_size
  pub max_links : IsCount s.max_links
  pub query_wait_timeout : IsTime s.query_wait_timeout
  pub server_lifetime : IsTime s.server_lifetime
  pub server_idle_timeout : IsTime s.server_idle_timeout
  pub max_packet_size : IsWithin 1024 2147483647 s.max_packet_size

-- The settings that a file spells are within their bounds.
abbrev pub ReadSettingsAreWithinBounds : Type 0
ReadSettingsAreWithinBounds = (lines : List Text) (s : Settings) → IsReadOf lines (Ok s) → AreWithinBounds s
