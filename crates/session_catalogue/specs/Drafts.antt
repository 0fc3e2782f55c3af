-- What one more line adds to what the lines before it spell, and the end of the file.
use Rattle.std.specs.Prelude.{◌≡◌, ◌⊎◌, ℕ, List, [], ◌∷◌, ◌++◌, Some, Result, Ok, Err, false, true, is_some}
use Rattle.session_values.specs.State.{CatalogueOf, TableOf, Row}
use Rattle.session_catalogue.specs.Catalogues.{PartsOf, Said, SaysNothing, SaysVersion, SaysDatabase, SaysTable, SaysRow, Unreadable, whole}
use Rattle.session_catalogue.specs.declared.catalogue_fault.CatalogueCause.TheVariants.{Memory}
use Rattle.session_catalogue.specs.declared.catalogue_fault.CatalogueError.{CatalogueError}

abbrev pub with_row : TableOf → Row → TableOf
with_row t vs = record t { rows = t.rows ++ vs ∷ [] }

-- a row of the last table
abbrev pub with_last_row : List TableOf → Row → List TableOf
with_last_row [] vs = []
with_last_row (t ∷ []) vs = with_row t vs ∷ []
with_last_row (t ∷ u ∷ ts) vs = t ∷ with_last_row (u ∷ ts) vs

abbrev pub with_said : PartsOf → Said → PartsOf
with_said p SaysNothing = p
with_said p (SaysVersion t) = record p { untouched = false; version = Some t }
with_said p (SaysDatabase n) = record p { untouched = false; databases = p.databases ++ n ∷ [] }
with_said p (SaysTable n cs) = record p { untouched = false; tables = p.tables ++ record { name = n; columns = cs; rows = [] } ∷ [] }
with_said p (SaysRow vs) = record p { untouched = false; tables = with_last_row p.tables vs }
with_said p Unreadable = p

-- what the end of the file answers after so many lines; memory may be wanting where there is a version
abbrev pub IsWholeOf : PartsOf → ℕ → Result CatalogueOf CatalogueError → Type 0
IsWholeOf p n (Ok c) = whole p.version p.databases p.tables ≡ Ok c
IsWholeOf p n (Err f) = (whole p.version p.databases p.tables ≡ Err (f.cause, f.line)) ⊎ ((f.cause ≡ Memory) × (f.line ≡ n) × (is_some p.version ≡ true))
