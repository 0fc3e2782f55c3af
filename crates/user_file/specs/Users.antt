-- What the lines of a user file spell, or their first fault (PgBouncer manual, "Authentication file format").
use Rattle.std.specs.Prelude.{◌≡◌, Bool, true, not, List, [], ◌∷◌, ◌++◌, if◌then◌else◌, Option, Some, None, Result, Ok, Err, is_some, option_map, bytes_eq}
use Rattle.std.specs.List.{find}
use Rattle.text_lines.specs.Files.{IsFaultless, IsReported, said_by}
use Rattle.text_lines.specs.Lines.{is_ignored}
use Rattle.user_file.specs.Fields.{fields, unquoted}
use Rattle.user_file.specs.Secrets.{Text, secret_of}
use Rattle.user_file.specs.declared.faults.UserCause.{UserCause}
use Rattle.user_file.specs.declared.faults.UserCause.TheVariants.{BadQuoting, NameTwice, Memory}
use Rattle.user_file.specs.declared.faults.UserError.{UserError}
use Rattle.user_file.specs.declared.user_table.UserRow.{UserRow}

-- the users that a login goes by, and the key of the salts that names have
pub record UsersOf : Type 0 where
  pub rows : List UserRow
  pub salts : Text

abbrev pub users_of : List UserRow → Text → UsersOf
users_of rows salts = record { rows = rows; salts = salts }

-- the first user of the name
abbrev pub user_named : Text → List UserRow → Option UserRow
user_named name users = find (λ user. bytes_eq name user.name) users

-- the user of a line's fields
abbrev pub user_with : Text × Text → UserRow
user_with p = record { name = unquoted p.0; secret = secret_of (unquoted p.1) }

unfoldable pub user_of : Text → Option UserRow
user_of line = option_map user_with (fields line)

-- what a line adds to the users before it
abbrev pub add_user : List UserRow → Option UserRow → List UserRow
add_user users None = users
add_user users (Some user) = users ++ user ∷ []

abbrev pub with_line : List UserRow → Text → List UserRow
with_line users line = if is_ignored line then users else add_user users (user_of line)

-- and its fault after them
abbrev pub user_fault : List UserRow → Option UserRow → Option UserCause
user_fault users None = Some BadQuoting
user_fault users (Some user) = if is_some (user_named user.name users) then Some NameTwice else None

abbrev pub fault_of : List UserRow → Text → Option UserCause
fault_of users line = if is_ignored line then None else user_fault users (user_of line)

-- a line has something to keep
abbrev pub keeps : Text → Bool
keeps line = not (is_ignored line)

-- the users that the lines spell, or the fault that is reported of them
abbrev pub IsReadOf : List Text → Result (List UserRow) UserError → Type 0
IsReadOf lines (Ok users) = IsFaultless with_line fault_of [] lines × (users ≡ said_by with_line fault_of [] lines)
IsReadOf lines (Err f) = IsReported with_line fault_of [] Memory keeps lines f.cause f.line

-- a new name of a field is its text, or why there is none
abbrev pub IsNewName : List UserRow → Text → Result Text UserCause → Type 0
IsNewName users field (Ok name) = (name ≡ unquoted field) × (user_named name users ≡ None)
IsNewName users field (Err NameTwice) = is_some (user_named (unquoted field) users) ≡ true
IsNewName users field (Err c) = (user_named (unquoted field) users ≡ None) × (c ≡ Memory)
