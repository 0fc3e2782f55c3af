-- What the lines of a settings file spell, or their first fault (PgBouncer manual, "Configuration file format").
use Rattle.std.specs.Prelude.{◌≡◌, ◌⊎◌, Bool, true, false, List, [], ◌∷◌, ◌++◌, if◌then◌else◌, Option, Some, None, Result, Ok, Err, is_some, bytes_eq}
use Rattle.std.specs.List.{list_any}
use Rattle.text_lines.specs.Files.{IsFaultless, IsReported, said_by}
use Rattle.ini_config.specs.DatabaseValues.{row_of}
use Rattle.ini_config.specs.Lines.{Said, Nothing, Opens, OpensUnknown, Gives, Unreadable, said}
use Rattle.ini_config.specs.OptionValues.{Text, key_of, change_of, refusal, defaults}
use Rattle.ini_config.specs.Tables.{row_named}
use Rattle.ini_config.specs.declared.database_rows.DbRow.{DbRow}
use Rattle.ini_config.specs.declared.faults.IniCause.{IniCause}
use Rattle.ini_config.specs.declared.faults.IniCause.TheVariants as cause
use Rattle.ini_config.specs.declared.faults.IniError.{IniError}
use Rattle.ini_config.specs.declared.lines.Section.{Section}
use Rattle.ini_config.specs.declared.lines.Section.TheVariants.{Preamble, Databases, Pgbouncer, Users, Peers}
use Rattle.ini_config.specs.declared.option_keys.Key.{Key}
use Rattle.ini_config.specs.declared.option_values.Settings.{Settings}
use Rattle.ini_config.specs.declared.reading.Reading.{Reading}

-- ---- what some lines without a fault say: the section that the last header opened, the keys of [pgbouncer], the settings

abbrev pub add_row : Reading → Option DbRow → Reading
add_row r None = r
add_row r (Some row) = record r { settings = record r.settings { rows = r.settings.rows ++ row ∷ [] } }

-- a row of [databases]
unfoldable pub with_row : Reading → Text → Text → Reading
with_row r name value = add_row r (row_of name value)

abbrev pub change : Settings → Option (Settings → Settings) → Settings
change s None = s
change s (Some f) = f s

abbrev pub change_key : Settings → Option Key → Text → Settings
change_key s None value = s
change_key s (Some key) value = change s (change_of key value)

-- a key of [pgbouncer]
unfoldable pub with_option : Reading → Text → Text → Reading
with_option r name value = record r { keys = r.keys ++ name ∷ []; settings = change_key r.settings (key_of name value) value }

abbrev pub with_pair_in : Section → Reading → Text → Text → Reading
with_pair_in Databases r name value = with_row r name value
with_pair_in Pgbouncer r name value = with_option r name value
with_pair_in other r name value = r

abbrev pub with_pair : Reading → Text → Text → Reading
with_pair r name value = with_pair_in r.section r name value

abbrev pub with_said : Reading → Said → Reading
with_said r (Opens section) = record r { section = section }
with_said r (Gives name value) = with_pair r name value
with_said r other = r

abbrev pub with_line : Reading → Text → Reading
with_line r line = with_said r (said line)

abbrev pub empty_file : Reading
empty_file = record { section = Preamble; keys = []; settings = defaults }

-- ---- the fault of a line after what was read before it: of several the first of the list of causes

abbrev pub twice_or : List DbRow → Text → Option DbRow → Option IniCause
twice_or rows name None = Some cause.BadValue
twice_or rows name (Some row) = if is_some (row_named name rows) then Some cause.KeyTwice else None

unfoldable pub row_fault : Reading → Text → Text → Option IniCause
row_fault r name value = twice_or r.settings.rows name (row_of name value)

abbrev pub value_fault : List Text → Text → Key → Text → Option (Settings → Settings) → Option IniCause
value_fault keys name key value None = Some cause.BadValue
value_fault keys name key value (Some f) = if list_any (bytes_eq name) keys then Some cause.KeyTwice else refusal key value

abbrev pub key_fault : List Text → Text → Option Key → Text → Option IniCause
key_fault keys name None value = Some cause.UnknownKey
key_fault keys name (Some key) value = value_fault keys name key value (change_of key value)

unfoldable pub option_fault : Reading → Text → Text → Option IniCause
option_fault r name value = key_fault r.keys name (key_of name value) value

-- a line that says something and begins no section, in [users] or [peers]; a pair before any section
abbrev pub pair_fault_in : Section → Reading → Text → Text → Option IniCause
pair_fault_in Databases r name value = row_fault r name value
pair_fault_in Pgbouncer r name value = option_fault r name value
pair_fault_in Preamble r name value = Some cause.NotALine
pair_fault_in Users r name value = Some cause.UnknownSection
pair_fault_in Peers r name value = Some cause.UnknownSection

abbrev pub pair_fault : Reading → Text → Text → Option IniCause
pair_fault r name value = pair_fault_in r.section r name value

abbrev pub other_fault : Section → IniCause
other_fault Users = cause.UnknownSection
other_fault Peers = cause.UnknownSection
other_fault other = cause.NotALine

abbrev pub said_fault : Reading → Said → Option IniCause
said_fault r Nothing = None
said_fault r (Opens section) = None
said_fault r OpensUnknown = Some cause.UnknownSection
said_fault r (Gives name value) = pair_fault r name value
said_fault r Unreadable = Some (other_fault r.section)

abbrev pub fault_of : Reading → Text → Option IniCause
fault_of r line = said_fault r (said line)

-- ---- the whole file

-- a line has something to keep: a key and a value
abbrev pub is_pair : Said → Bool
is_pair (Gives name value) = true
is_pair other = false

abbrev pub keeps : Text → Bool
keeps line = is_pair (said line)

-- the settings that the lines spell, or the fault that is reported of them; line 0: out of memory before the first line, for the defaults
abbrev pub IsReadOf : List Text → Result Settings IniError → Type 0
IsReadOf lines (Ok settings) =
    IsFaultless with_line fault_of empty_file lines × (settings ≡ (said_by with_line fault_of empty_file lines).settings)
IsReadOf lines (Err fault) =
    ((fault.cause ≡ cause.Memory) × (fault.line ≡ 0)) ⊎ IsReported with_line fault_of empty_file cause.Memory keeps lines fault.cause fault.line
