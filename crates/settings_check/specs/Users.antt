-- Every fault of a user file: each line is judged as a file of its own, and its name after those of the lines above it.
use Rattle.std.specs.Prelude.{ℕ, ◌+◌, Bool, List, [], ◌∷◌, ◌++◌, Option, Some, None, option_map, slice_get, if◌then◌else◌, bytes_eq}
use Rattle.std.specs.List.{list_any}
use Rattle.text_lines.specs.Files.{Line, first_fault, said_by}
use Rattle.text_lines.specs.Lines.{lines}
use Rattle.user_file.specs.Users as user_file
use Rattle.user_file.specs.declared.faults.UserCause.{UserCause}
use Rattle.user_file.specs.declared.faults.UserCause.TheVariants.{NameTwice}
use Rattle.user_file.specs.declared.user_table.UserRow.{UserRow}
use Rattle.settings_check.specs.declared.users.FaultyUser.{FaultyUser}

-- a fault, the number of its line, and the name that it is about; a line that can't be read has none
pub record Faulty : Type 0 where
  pub cause : UserCause
  pub number : ℕ
  pub name : Line

abbrev pub faulty : UserCause → ℕ → Line → Faulty
faulty cause number name = record { cause = cause; number = number; name = name }

-- ---- a line by itself

abbrev pub own_fault : Line → Option UserCause
own_fault line = option_map (λ f. f.0) (first_fault user_file.with_line user_file.fault_of [] [] (lines line))

-- the user that it names; none where it is empty or a comment
abbrev pub own_user : Line → Option UserRow
own_user line = slice_get (said_by user_file.with_line user_file.fault_of [] (lines line)) 0

-- ---- and after the names above it

abbrev pub has : List Line → Line → Bool
has names name = list_any (bytes_eq name) names

abbrev pub told_of : List Line → ℕ → Option UserCause → Option UserRow → Option Faulty
told_of names n (Some cause) user = Some (faulty cause n [])
told_of names n None None = None
told_of names n None (Some user) = if has names user.name then Some (faulty NameTwice n user.name) else None

abbrev pub names_with : List Line → Option UserCause → Option UserRow → List Line
names_with names (Some cause) user = names
names_with names None None = names
names_with names None (Some user) = if has names user.name then names else names ++ user.name ∷ []

abbrev pub fault_of : List Line → ℕ → Line → Option Faulty
fault_of names n line = told_of names n (own_fault line) (own_user line)

abbrev pub names_after : List Line → Line → List Line
names_after names line = names_with names (own_fault line) (own_user line)

abbrev pub before : Option Faulty → List Faulty → List Faulty
before None later = later
before (Some f) later = f ∷ later

-- those of some lines, the first of which has this number, after these names
abbrev pub faults_from : List Line → ℕ → List Line → List Faulty
faults_from names n [] = []
faults_from names n (line ∷ later) = before (fault_of names n line) (faults_from (names_after names line) (n + 1) later)

abbrev pub faults : List Line → List Faulty
faults raws = faults_from [] 1 raws

-- the same of what was found
abbrev pub found : FaultyUser → Faulty
found f = faulty f.cause f.number f.name
