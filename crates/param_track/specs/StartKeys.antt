-- Which start key a client's StartupMessage gives under the settings (PostgreSQL manual,
-- "StartupMessage"; PgBouncer manual, "ignore_startup_parameters" and "track_extra_parameters").
use Rattle.std.specs.Prelude.{◌≡◌, List, [], ◌++◌, length, filter, fold, Option, Some, None, option_map, Result, Ok, Err, Bool, true, false, ◌==◌, ◌&&◌, ◌||◌, not, if◌then◌else◌, codes}
use Rattle.std.specs.Str.{str_eq_ignore_ascii_case}
use Rattle.std.specs.List.{list_any, find}
use Rattle.std.specs.Option.{option_or}
use Rattle.ini_config.specs.declared.database_rows.DbRow.{DbRow}
use Rattle.ini_config.specs.declared.option_values.Settings.{Settings}
pub use Rattle.ini_config.specs.OptionValues.{always_followed}
use Rattle.ini_config.specs.OptionValues.{has_folded, untracks}
use Rattle.ini_config.specs.Tables.{row_for}
use Rattle.start_keys.specs.Lawful.{is_identity}
use Rattle.start_keys.specs.State.{StartKeyOf}
pub use Rattle.start_keys.specs.StartPairs.{Text, Pair, user_in, database_in}
use Rattle.start_keys.specs.StartPairs.{put, folded}
use Rattle.param_track.specs.declared.StartKeyError.{StartKeyError}
use Rattle.param_track.specs.declared.StartKeyError.TheVariants.{NoUser, UnsupportedParameter, Replication as Replicates, Memory}
use Rattle.param_track.specs.declared.uses.Use.{Use}
use Rattle.param_track.specs.declared.uses.Use.TheVariants.{Identity, Followed, Dropped, Unsupported, Replication}

-- ---- parameters, named without regard to the case of ASCII letters

-- what the settings say of parameters: the names that are followed, and those that are ignored
pub record Names : Type 0 where
  pub followed : List Text
  pub ignored : List Text

-- those that are followed where nothing is said of them, but the untracked
unfoldable pub still_followed : Settings → List Text
still_followed s = filter (λ name. not (untracks s name)) always_followed

-- a name that is both untracked and an extra one is followed
abbrev pub names_of : Settings → Names
names_of s = record { followed = still_followed s ++ s.track_extra_parameters; ignored = s.ignore_startup_parameters }

abbrev pub folds_to_identity : Text → Bool
folds_to_identity name = str_eq_ignore_ascii_case name (codes "user") || str_eq_ignore_ascii_case name (codes "database")

abbrev pub is_followed : Names → Text → Bool
is_followed names name = not (folds_to_identity name) && has_folded names.followed name

abbrev pub is_replication : Names → Text → Bool
is_replication names name = str_eq_ignore_ascii_case name (codes "replication") && not (has_folded names.ignored name)

-- what becomes of a pair of this name
abbrev pub use_of : Names → Text → Use
use_of names name =
    if is_identity name then Identity else (
    if is_replication names name then Replication else (
    if is_followed names name then Followed else (
    if has_folded names.ignored name then Dropped else Unsupported)))

abbrev pub is_use : Use → Use → Bool
is_use Identity Identity = true
is_use Followed Followed = true
is_use Dropped Dropped = true
is_use Unsupported Unsupported = true
is_use Replication Replication = true
is_use _ _ = false

abbrev pub has_use : Names → Use → List Pair → Bool
has_use names wanted pairs = list_any (λ p. is_use (use_of names p.0) wanted) pairs

-- ---- the parameter for which a message is told to be unsupported

-- the name of the first pair of which the settings make this
abbrev pub first_name : Names → Use → List Pair → Option Text
first_name names wanted pairs = option_map (λ p. p.0) (find (λ p. is_use (use_of names p.0) wanted) pairs)

-- the first that is neither followed nor ignored; where each is, `replication`, unless it is ignored
abbrev pub unsupported_name : Names → List Pair → Option Text
unsupported_name names pairs = option_or (first_name names Unsupported pairs) (first_name names Replication pairs)

-- ---- the followed parameters

abbrev pub put_if_followed : Names → List Pair → Pair → List Pair
put_if_followed names kept p = if is_use (use_of names p.0) Followed then put (folded p) kept else kept

abbrev pub parameters_in : Names → List Pair → List Pair
parameters_in names pairs = fold (put_if_followed names) [] pairs

-- ---- the key

-- of a row, or of none, under the name of the database that was asked for
abbrev pub key_at : Option DbRow → Text → Text → List Pair → StartKeyOf
key_at (Some row) database user parameters = record { row = database; host = Some row.host; port = row.port; dbname = row.dbname; user = user; parameters = parameters }
key_at None database user parameters = record { row = database; host = None; port = 0; dbname = []; user = user; parameters = parameters }

-- the first reason that holds, wherever it stands among the pairs
abbrev pub refusal : Names → List Pair → Option StartKeyError
refusal names pairs =
    if length (user_in pairs) == 0 then Some NoUser else (
    if has_use names Unsupported pairs then Some UnsupportedParameter else (
    if has_use names Replication pairs then Some Replicates else None))

abbrev pub unless : {A : Type 0} → Option StartKeyError → A → Result A StartKeyError
unless None x = Ok x
unless (Some fault) x = Err fault

-- the key of a client whose database has this row, or none
abbrev pub start_key : Option DbRow → Names → List Pair → Result StartKeyOf StartKeyError
start_key row names pairs = unless (refusal names pairs) (key_at row (database_in pairs) (user_in pairs) (parameters_in names pairs))

-- ---- under the settings

abbrev pub wanted_key : Settings → List Pair → StartKeyOf
wanted_key s pairs = key_at (row_for (database_in pairs) s.rows) (database_in pairs) (user_in pairs) (parameters_in (names_of s) pairs)

abbrev pub start_key_under : Settings → List Pair → Result StartKeyOf StartKeyError
start_key_under s pairs = start_key (row_for (database_in pairs) s.rows) (names_of s) pairs

-- the answer is the definition's; out of memory comes only in the stead of a key
abbrev pub Answers : Result StartKeyOf StartKeyError → Result StartKeyOf StartKeyError → Type 0
Answers (Err Memory) (Ok key) = Unit {0}
Answers (Err Memory) (Err fault) = ⊥
Answers given wanted = wanted ≡ given
