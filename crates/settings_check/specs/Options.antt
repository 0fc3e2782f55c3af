-- What a settings file says in [pgbouncer], and which of its keys are read over (PgBouncer manual, "Generic settings" and after).
use Rattle.std.specs.Prelude.{Bool, not, ◌&&◌, List, [], ◌∷◌, ◌++◌, Option, Some, None, if◌then◌else◌, filter, fold, map, option_map, bytes_eq, codes}
use Rattle.std.specs.List.{find, list_any}
use Rattle.neutral_keys.specs.ReadOver.{Text, is_read_over}
use Rattle.ini_config.specs.Lines.{Said, Opens, Gives, said}
use Rattle.ini_config.specs.declared.lines.Section.{Section}
use Rattle.ini_config.specs.declared.lines.Section.TheVariants.{Preamble, Pgbouncer}

-- a key and its value
abbrev pub Entry : Type 0
Entry = Text × Text

-- a header opens a section
abbrev pub section_after : Section → Said → Section
section_after section (Opens next) = next
section_after section other = section

abbrev pub option_in : Section → Said → Option Entry
option_in Pgbouncer (Gives name value) = Some (name, value)
option_in section other = None

abbrev pub before : Option Entry → List Entry → List Entry
before None later = later
before (Some option) later = option ∷ later

-- the keys of [pgbouncer] with their values, in the order of the file
abbrev pub options_from : Section → List Text → List Entry
options_from section [] = []
options_from section (line ∷ lines) = before (option_in section (said line)) (options_from (section_after section (said line)) lines)

abbrev pub options : List Text → List Entry
options lines = options_from Preamble lines

-- the value that the file gives a key: the first
abbrev pub value_given : Text → List Text → Option Text
value_given key lines = option_map (λ o. o.1) (find (λ o. bytes_eq o.0 key) (options lines))

-- a name more, unless it is among them
abbrev pub with_name : List Text → Text → List Text
with_name names name = if list_any (λ n. bytes_eq n name) names then names else names ++ name ∷ []

-- a key that the settings read over; `auth_file` isn't where it names the user file
abbrev pub is_over : Bool → Text → Text → Bool
is_over uses_auth_file name value = is_read_over name value && not (uses_auth_file && bytes_eq name (codes "auth_file"))

-- their names, each once
abbrev pub read_over : Bool → List Text → List Text
read_over uses_auth_file lines = fold with_name [] (map (λ o. o.0) (filter (λ o. is_over uses_auth_file o.0 o.1) (options lines)))
