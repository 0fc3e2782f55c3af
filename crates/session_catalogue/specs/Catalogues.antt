-- The catalogue file of the stand-in server: what its lines spell, or its first fault.
use Rattle.std.specs.Prelude.{◌≡◌, ◌⊎◌, ◌≤◌, ℕ, ◌+◌, ◌-◌, List, [], ◌∷◌, ◌++◌, map, take, length, slice_get, slice_index, Option, Some, None, Result, Ok, Err, Bool, true, false, not, ◌==◌, ◌&&◌, ◌||◌, nat_le, if◌then◌else◌, codes}
use Rattle.std.specs.List.{list_all}
use Rattle.mini_sql.specs.Words.{Text, same_text, is_between, is_digit}
use Rattle.text_lines.specs.Files.{or_later}
use Rattle.session_values.specs.Runs.{are_distinct}
use Rattle.session_values.specs.State.{CatalogueOf, TableOf, Row, table_name, has_text}
use Rattle.session_catalogue.specs.declared.catalogue_fault.CatalogueCause.{CatalogueCause}
use Rattle.session_catalogue.specs.declared.catalogue_fault.CatalogueCause.TheVariants.{NotALine, NameTwice, WrongNumberOfValues, Memory}
use Rattle.session_catalogue.specs.declared.catalogue_fault.CatalogueError.{CatalogueError}

-- ---- one line

abbrev pub with_byte : ℕ → List Text → List Text
with_byte b [] = []
with_byte b (f ∷ fs) = (b ∷ f) ∷ fs

-- the fields of a line, parted by one tab each
unfoldable pub fields : Text → List Text
fields [] = [] ∷ []
fields (b ∷ bs) = if b == 9 then [] ∷ fields bs else with_byte b (fields bs)

abbrev pub starts_lower_name : ℕ → Bool
starts_lower_name b = is_between 97 122 b || b == 95

abbrev pub is_in_lower_name : ℕ → Bool
is_in_lower_name b = starts_lower_name b || is_digit b

-- lower-case letters, digits and underscores, the first of them no digit; at most 63 bytes
abbrev pub is_lower_name : Text → Bool
is_lower_name t = nat_le 1 (length t) && nat_le (length t) 63 && starts_lower_name (slice_index t 0) && list_all is_in_lower_name t

abbrev pub is_not_zero : ℕ → Bool
is_not_zero b = not (b == 0)

abbrev pub is_version : Text → Bool
is_version t = nat_le (length t) 63 && list_all is_not_zero t

abbrev pub are_columns : List Text → Bool
are_columns cs = nat_le 1 (length cs) && nat_le (length cs) 64 && list_all is_lower_name cs

abbrev pub is_value : Text → Bool
is_value t = nat_le (length t) 1048576

-- \N is null; every other field stands for itself
abbrev pub value_of : Text → Option Text
value_of t = if same_text t (92 ∷ 78 ∷ []) then None else Some t

-- what a line says
pub data Said : Type 0 where
  -- an empty line
  SaysNothing : Said
  SaysVersion : Text → Said
  SaysDatabase : Text → Said
  -- a name and columns
  SaysTable : Text → List Text → Said
  -- values
  SaysRow : Row → Said
  -- no line of a catalogue
  Unreadable : Said

abbrev pub version_said : List Text → Said
version_said (t ∷ []) = if is_version t then SaysVersion t else Unreadable
version_said _ = Unreadable

abbrev pub database_said : List Text → Said
database_said (n ∷ []) = SaysDatabase n
database_said _ = Unreadable

abbrev pub table_said : List Text → Said
table_said [] = Unreadable
table_said (n ∷ cs) = if is_lower_name n && are_columns cs then SaysTable n cs else Unreadable

abbrev pub row_said : List Text → Said
row_said vs = if list_all is_value vs then SaysRow (map value_of vs) else Unreadable

-- the first field tells the kind of line
abbrev pub fields_said : List Text → Said
fields_said [] = Unreadable
fields_said (kind ∷ fs) =
    if same_text kind (codes "version") then version_said fs else (
    if same_text kind (codes "database") then database_said fs else (
    if same_text kind (codes "table") then table_said fs else (
    if same_text kind (codes "row") then row_said fs else Unreadable)))

unfoldable pub said : Text → Said
said [] = SaysNothing
said (b ∷ bs) = fields_said (fields (b ∷ bs))

-- ---- what lines spell together

abbrev pub says_nothing : Said → Bool
says_nothing SaysNothing = true
says_nothing _ = false

-- the version, once it is given
abbrev pub version_of : List Said → Option Text
version_of [] = None
version_of (SaysVersion t ∷ ss) = Some t
version_of (_ ∷ ss) = version_of ss

abbrev pub databases_of : List Said → List Text
databases_of [] = []
databases_of (SaysDatabase n ∷ ss) = n ∷ databases_of ss
databases_of (_ ∷ ss) = databases_of ss

-- the rows up to the next table
abbrev pub rows_above : List Said → List Row
rows_above [] = []
rows_above (SaysRow vs ∷ ss) = vs ∷ rows_above ss
rows_above (SaysTable n cs ∷ ss) = []
rows_above (_ ∷ ss) = rows_above ss

-- each table with the rows that follow it
abbrev pub tables_of : List Said → List TableOf
tables_of [] = []
tables_of (SaysTable n cs ∷ ss) = record { name = n; columns = cs; rows = rows_above ss } ∷ tables_of ss
tables_of (_ ∷ ss) = tables_of ss

pub record PartsOf : Type 0 where
  -- each line so far is empty
  pub untouched : Bool
  pub version : Option Text
  pub databases : List Text
  pub tables : List TableOf

unfoldable pub parts : List Said → PartsOf
parts ss = record { untouched = list_all says_nothing ss; version = version_of ss; databases = databases_of ss; tables = tables_of ss }

-- ---- faults

abbrev pub last_of : List TableOf → Option TableOf
last_of ts = slice_get ts (length ts - 1)

abbrev pub row_fault : Option TableOf → Row → Option CatalogueCause
row_fault None vs = Some NotALine
row_fault (Some t) vs = if length vs == length t.columns then None else Some WrongNumberOfValues

-- The fault of a line after what the lines before it spell. The version stands first, no two
-- databases, tables or columns of a table share a name, and a row belongs to the table above it.
abbrev pub fault_of : PartsOf → Said → Option CatalogueCause
fault_of p SaysNothing = None
fault_of p (SaysVersion t) = if p.untouched then None else Some NotALine
fault_of p (SaysDatabase n) = if has_text p.databases n then Some NameTwice else None
fault_of p (SaysTable n cs) = if has_text (map table_name p.tables) n || not (are_distinct cs) then Some NameTwice else None
fault_of p (SaysRow vs) = row_fault (last_of p.tables) vs
fault_of p Unreadable = Some NotALine

-- the first fault among lines that follow others, and its place in the file, counted from 1
abbrev pub first_fault : List Said → List Said → Option (CatalogueCause × ℕ)
first_fault before [] = None
first_fault before (s ∷ ss) = or_later (fault_of (parts before) s) (length before + 1) (first_fault (before ++ s ∷ []) ss)

abbrev pub IsFaultless : List Text → Type 0
IsFaultless lines = first_fault [] (map said lines) ≡ None

-- ---- the whole file

-- a version and at least one database
abbrev pub whole : Option Text → List Text → List TableOf → Result CatalogueOf (CatalogueCause × ℕ)
whole (Some v) (d ∷ ds) ts = Ok (record { version = v; databases = d ∷ ds; tables = ts })
whole v ds ts = Err (NotALine, 1)

abbrev pub judged : Option (CatalogueCause × ℕ) → PartsOf → Result CatalogueOf (CatalogueCause × ℕ)
judged (Some fault) p = Err fault
judged None p = whole p.version p.databases p.tables

-- the catalogue that the lines spell, or the first fault with its line
abbrev pub catalogue_of : List Text → Result CatalogueOf (CatalogueCause × ℕ)
catalogue_of lines = judged (first_fault [] (map said lines)) (parts (map said lines))

-- what reading answers; memory may be wanting at a line of the file, up to which there is no fault
abbrev pub IsReadOf : List Text → Result CatalogueOf CatalogueError → Type 0
IsReadOf lines (Ok c) = catalogue_of lines ≡ Ok c
IsReadOf lines (Err f) =
    (catalogue_of lines ≡ Err (f.cause, f.line)) ⊎ ((f.cause ≡ Memory) × (1 ≤ f.line) × (f.line ≤ length lines) × IsFaultless (take f.line lines))
