-- The law of the key with which a login passes.
use Rattle.std.specs.Prelude.{◌≡◌, ◌<◌, ℕ, List, length, Option, Some, None, Ok}
use Rattle.std.specs.List.{AllByRecursion}
use Rattle.ini_config.specs.declared.option_values.Settings.{Settings}
use Rattle.ini_config.specs.Reading.{IsReadOf}
use Rattle.ini_config.specs.Bounds.{AreWithinBounds}
use Rattle.ini_config.specs.declared.database_rows.DbRow.{DbRow}
use Rattle.message_view.specs.declared.KeyWord.{KeyWord}
use Rattle.user_file.specs.Users.{UsersOf}
use Rattle.session_values.specs.Lawful.{IsClientKey}
use Rattle.session_values.specs.State.{StartKeyOf}
use Rattle.param_track.specs.StartKeys.{Text}
use Rattle.login_laws.specs.StartKeys.{IsLawfulRow}
use Rattle.login_core.specs.Talk.End.{Passed}
use Rattle.login_core.specs.Dialogue.{Rows, ToLink, login_among, row_in}

-- the database rows of these login rows name their servers' databases
abbrev pub AreLawfulRows : Rows → Type 0
AreLawfulRows rows = (database user : Text) → IsLawfulRow (rows database user).database

-- what a link can be started by: a client's key with a database
pub record IsLinkKey (key : StartKeyOf) : Type 0 where
  pub client : IsClientKey key
  pub dbname : 0 < length key.dbname

-- The key with which a login passes can start a link.
abbrev pub PassedKeysAreLinkKeys : Type 0
PassedKeysAreLinkKeys = (rows : Rows) (word : KeyWord) (bytes left : List ℕ) (key : StartKeyOf) → AreLawfulRows rows → (login_among rows word bytes).ended ≡ Passed (ToLink key) left → IsLinkKey key

-- where a row names a user, it's this one
abbrev pub IsNamed : Option Text → Text → Type 0
IsNamed None user = Unit {0}
IsNamed (Some name) user = user ≡ name

-- the key is of the server that this row names, and of its user
pub record IsAtRow (row : DbRow) (key : StartKeyOf) : Type 0 where
  pub host : key.host ≡ Some row.host
  pub port : key.port ≡ row.port
  pub dbname : key.dbname ≡ row.dbname
  pub user : IsNamed row.user key.user

abbrev pub IsOfRow : Option DbRow → StartKeyOf → Type 0
IsOfRow None key = ⊥
IsOfRow (Some row) key = IsAtRow row key

-- The key with which a login passed is of the row of its database, as that is for some user: who logged in.
abbrev pub PassedKeysAreOfTheirRows : Type 0
PassedKeysAreOfTheirRows = (rows : Rows) (word : KeyWord) (bytes left : List ℕ) (key : StartKeyOf) → AreLawfulRows rows → (login_among rows word bytes).ended ≡ Passed (ToLink key) left → (user : Text) × IsOfRow (rows key.row user).database key

-- Rows of settings are such where each database row is.
abbrev pub SettingsRowsAreLawful : Type 0
SettingsRowsAreLawful = (s : Settings) (users : UsersOf) → AllByRecursion (λ row. IsLawfulRow (Some row)) s.rows → AreLawfulRows (row_in s users)

-- Rows of settings that a file spells are.
abbrev pub ReadRowsAreLawful : Type 0
ReadRowsAreLawful = (lines : List Text) (s : Settings) (users : UsersOf) → IsReadOf lines (Ok s) → AreLawfulRows (row_in s users)

-- Rows of settings within their bounds are.
abbrev pub BoundedRowsAreLawful : Type 0
BoundedRowsAreLawful = (s : Settings) (users : UsersOf) → AreWithinBounds s → AreLawfulRows (row_in s users)
