-- What the files of the pooler come to.
use Rattle.std.specs.Prelude.{◌≡◌, ◌≢◌, ◌⊎◌, ◌<◌, ℕ, List, length, Option, Some, None, IfSome, Result, Ok, Err, codes}
use Rattle.std.specs.Borrow.{Bor}
use Rattle.ini_config.specs.Reading as ini
use Rattle.ini_config.specs.declared.option_values.Settings.{Settings}
use Rattle.session_catalogue.specs.Catalogues as catalogue
use Rattle.session_values.specs.State.{CatalogueOf}
use Rattle.user_file.specs.Users as users
use Rattle.user_file.specs.declared.user_table.UserRow.{UserRow}
use Rattle.settings_check.specs.Options.{value_given}
use Rattle.pool_app.specs.declared.files.ReadError.{ReadError}
use Rattle.pool_app.specs.declared.files.ReadError.TheVariants.{TooLong, Io}
use Rattle.pool_app.specs.declared.fault.AppError.{AppError}
use Rattle.pool_app.specs.declared.fault.AppError.TheVariants.{AuthFile, Catalogue, File, Ini, Memory, NoUserFile, Users}

-- the settings that the lines spell, or their fault
abbrev pub IsSettingsOf : List (List ℕ) → Result Settings AppError → Type 0
IsSettingsOf lines (Ok settings) = ini.IsReadOf lines (Ok settings)
IsSettingsOf lines (Err (Ini fault)) = ini.IsReadOf lines (Err fault)
IsSettingsOf lines (Err other) = ⊥

-- the users that the lines spell, or their fault
abbrev pub IsUsersOf : List (List ℕ) → Result (List UserRow) AppError → Type 0
IsUsersOf lines (Ok read) = users.IsReadOf lines (Ok read)
IsUsersOf lines (Err (Users fault)) = users.IsReadOf lines (Err fault)
IsUsersOf lines (Err other) = ⊥

-- the bytes themselves, where there are 32; else a fault of the file
abbrev pub IsSeedOf : Bor (List ℕ) → List ℕ → Result (List ℕ) AppError → Type 0
IsSeedOf path bytes (Ok seed) = (length bytes ≡ 32) × (seed ≡ bytes)
IsSeedOf path bytes (Err fault) = (length bytes ≢ 32) × (fault ≡ File path)

-- the catalogue that the lines spell, or their fault
abbrev pub IsCatalogueOf : List (List ℕ) → Result CatalogueOf AppError → Type 0
IsCatalogueOf lines (Ok read) = catalogue.IsReadOf lines (Ok read)
IsCatalogueOf lines (Err (Catalogue fault)) = catalogue.IsReadOf lines (Err fault)
IsCatalogueOf lines (Err other) = ⊥

-- a reader of known bytes is too long only where it has more than may be
abbrev pub IsReadFaultOf : Option (List ℕ) → ℕ → ReadError → Type 0
IsReadFaultOf remaining most TooLong = IfSome remaining (λ xs. most < length xs)
IsReadFaultOf remaining most (Io error) = Unit {0}

-- ---- whose fault it is that a file isn't read: it is named, unless memory was refused, or the fault is of one of its lines

abbrev pub IsUnread : Bor (List ℕ) → AppError → Type 0
IsUnread path fault = (fault ≡ File path) ⊎ (fault ≡ Memory)

abbrev pub IsSettingsFault : Bor (List ℕ) → AppError → Type 0
IsSettingsFault path (Ini fault) = Unit {0}
IsSettingsFault path other = IsUnread path other

abbrev pub IsUsersFault : Bor (List ℕ) → AppError → Type 0
IsUsersFault path (Users fault) = Unit {0}
IsUsersFault path other = IsUnread path other

-- ---- the user file that the command line names, or the settings

-- the file that the settings name
abbrev pub auth_file : List (List ℕ) → Option (List ℕ)
auth_file lines = value_given (codes "auth_file") lines

-- one that nobody names has no path
abbrev pub IsNamed : Option (List ℕ) → Type 0
IsNamed None = ⊥
IsNamed (Some path) = 0 < length path

abbrev pub IsAuthFileFault : List (List ℕ) → AppError → Type 0
IsAuthFileFault lines (Users fault) = IsNamed (auth_file lines)
IsAuthFileFault lines (AuthFile path) = IsNamed (auth_file lines)
IsAuthFileFault lines NoUserFile = IsNamed (auth_file lines) → ⊥
IsAuthFileFault lines other = other ≡ Memory

abbrev pub IsUserFileFault : Option (Bor (List ℕ)) → List (List ℕ) → AppError → Type 0
IsUserFileFault (Some path) lines fault = IsUsersFault path fault
IsUserFileFault None lines fault = IsAuthFileFault lines fault

-- the same of a file whose text isn't known
abbrev pub IsSomeUserFileFault : Option (Bor (List ℕ)) → AppError → Type 0
IsSomeUserFileFault users fault = (lines : List (List ℕ)) × IsUserFileFault users lines fault

abbrev pub IsCatalogueFault : Bor (List ℕ) → AppError → Type 0
IsCatalogueFault path (Catalogue fault) = Unit {0}
IsCatalogueFault path other = IsUnread path other

abbrev pub IsAgainFault : Bor (List ℕ) → Option (Bor (List ℕ)) → AppError → Type 0
IsAgainFault ini users fault = IsSettingsFault ini fault ⊎ IsSomeUserFileFault users fault

-- the system's random bytes can't be had
abbrev pub IsSystemFault : AppError → Type 0
IsSystemFault (File path) = path.now ≡ codes "/dev/urandom"
IsSystemFault other = other ≡ Memory

abbrev pub IsSeedFault : Option (Bor (List ℕ)) → AppError → Type 0
IsSeedFault (Some path) fault = IsUnread path fault
IsSeedFault None fault = IsSystemFault fault

abbrev pub IsInputsFault : Bor (List ℕ) → Option (Bor (List ℕ)) → Option (Bor (List ℕ)) → AppError → Type 0
IsInputsFault ini users key_seed fault = IsSettingsFault ini fault ⊎ (IsSomeUserFileFault users fault ⊎ IsSeedFault key_seed fault)
