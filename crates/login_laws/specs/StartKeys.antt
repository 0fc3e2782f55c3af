-- The law of the keys that StartupMessages give under settings.
use Rattle.std.specs.Prelude.{◌≡◌, ◌<◌, ℕ, List, length, Option, Some, None, Ok}
use Rattle.message_view.specs.Bodies.{HasNoZero}
use Rattle.ini_config.specs.declared.database_rows.DbRow.{DbRow}
use Rattle.session_values.specs.Lawful.{IsClientKey}
use Rattle.session_values.specs.State.{StartKeyOf}
use Rattle.key_laws.specs.Keys.{ArePairs}
use Rattle.param_track.specs.StartKeys.{Pair, Names, start_key}

-- a name of some bytes, none of them zero
abbrev pub IsLawfulName : List ℕ → Type 0
IsLawfulName name = (0 < length name) × HasNoZero name

abbrev pub IsLawfulUser : Option (List ℕ) → Type 0
IsLawfulUser None = Unit {0}
IsLawfulUser (Some user) = IsLawfulName user

-- the server's database, and the user where the row names one
pub record HasLawfulNames (row : DbRow) : Type 0 where
  pub dbname : IsLawfulName row.dbname
  pub user : IsLawfulUser row.user

-- where there is a row, its names are lawful
abbrev pub IsLawfulRow : Option DbRow → Type 0
IsLawfulRow None = Unit {0}
IsLawfulRow (Some row) = HasLawfulNames row

-- The key of a client is lawful, and its names are followed ones.
abbrev pub StartKeysAreClientKeys : Type 0
StartKeysAreClientKeys = (row : Option DbRow) (names : Names) (pairs : List Pair) (key : StartKeyOf) → IsLawfulRow row → ArePairs pairs → start_key row names pairs ≡ Ok key → IsClientKey key
