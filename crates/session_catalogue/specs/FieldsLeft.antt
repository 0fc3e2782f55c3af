-- The fields that a reader of a line still has before it, and what it says of a line.
use Rattle.std.specs.Prelude.{◌≡◌, ◌≤◌, length, List, [], ◌∷◌, map, Option, Some, None, option_map}
use Rattle.std.specs.Borrow.{Bor}
use Rattle.mini_sql.specs.Words.{Text}
use Rattle.session_catalogue.specs.Catalogues.{Said, SaysNothing, SaysVersion, SaysDatabase, SaysTable, SaysRow, Unreadable, fields, value_of}
use Rattle.session_catalogue.specs.declared.catalogue_fields.Fields.{Fields}
use Rattle.session_catalogue.specs.declared.catalogue_lines.Line.{Line}
use Rattle.session_catalogue.specs.declared.catalogue_lines.Line.TheVariants as line

abbrev pub fields_from : Option (Bor Text) → List Text
fields_from None = []
fields_from (Some t) = fields t.now

abbrev pub fields_left : Fields → List Text
fields_left f = fields_from f.rest

abbrev pub said_by : Line → Said
said_by line.Empty = SaysNothing
said_by (line.Version text) = SaysVersion text.now
said_by (line.Database name) = SaysDatabase name.now
said_by (line.Table name columns) = SaysTable name.now (fields_left columns)
said_by (line.Row values) = SaysRow (map value_of (fields_left values))
said_by line.Other = Unreadable

-- the item of a list that has just one
abbrev pub only_of : List Text → Option Text
only_of (t ∷ []) = Some t
only_of _ = None

abbrev pub IsOnly : List Text → Option (Bor Text) → Type 0
IsOnly fs r = option_map (λ t. t.now) r ≡ only_of fs

-- a table has at most 64 columns
abbrev pub IsNarrowLine : Line → Type 0
IsNarrowLine (line.Table name columns) = length (fields_left columns) ≤ 64
IsNarrowLine _ = Unit {0}
