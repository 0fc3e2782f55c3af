-- What a report shows of a line: nothing of a password.
use Rattle.std.specs.Prelude.{ℕ, ◌+◌, Bool, [], ◌∷◌, ◌++◌, if◌then◌else◌, nat_lt, length, take, codes}
use Rattle.std.specs.Str.{str_eq_ignore_ascii_case}
use Rattle.log_lines.specs.Shown.{Text, shown_text}
use Rattle.ini_config.specs.Lines.{Said, Gives}
use Rattle.ini_config.specs.declared.lines.Section.{Section}
use Rattle.ini_config.specs.declared.lines.Section.TheVariants.{Databases, Pgbouncer}

-- the case of ASCII letters doesn't count
abbrev pub begins_password : Text → Bool
begins_password text = str_eq_ignore_ascii_case (take 8 text) (codes "password")

-- how many bytes are shown: up to the first word `password`, and the word
unfoldable pub shown_length : Text → ℕ
shown_length [] = 0
shown_length (b ∷ bs) = if begins_password (b ∷ bs) then 8 else shown_length bs + 1

-- as the log shows texts, and two dots for what is hidden
abbrev pub visible : Text → Text
visible text = shown_text (take (shown_length text) text) ++ (if nat_lt (shown_length text) (length text) then codes ".." else [])

-- a key and its value, in the sections that have such; else nothing, since it might be a user's line
abbrev pub pair_in : Section → Said → Text
pair_in Databases (Gives name value) = visible (name ++ codes " = " ++ value) ++ codes ": "
pair_in Pgbouncer (Gives name value) = visible (name ++ codes " = " ++ value) ++ codes ": "
pair_in section other = []
