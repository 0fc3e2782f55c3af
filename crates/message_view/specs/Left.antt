-- What is left in the lists that views hand out one by one.
use Rattle.std.specs.Prelude.{ℕ, List, Option}
use Rattle.message_view.specs.declared.lists.Codes.{Codes}
use Rattle.message_view.specs.declared.lists.Oids.{Oids}
use Rattle.message_view.specs.declared.lists.Values.{Values}
use Rattle.message_view.specs.declared.lists.ColumnView.{ColumnView}
use Rattle.message_view.specs.declared.lists.Columns.{Columns}
use Rattle.message_view.specs.declared.lists.Fields.{Fields}
use Rattle.message_view.specs.declared.lists.Pairs.{Pairs}
use Rattle.std.specs.Int.{w16, w32, cast_unsigned}
use Rattle.message_view.specs.Bodies.{Text, ColumnOf}
use Rattle.message_view.specs.Reading.{items_of, list_at, ended_at, int16_at, int32_at, value_at, column_at, pair_at, field_at}

abbrev pub codes_left : Codes → List ℕ
codes_left codes = items_of (list_at int16_at codes.left codes.rest.now)

abbrev pub oids_left : Oids → List ℕ
oids_left oids = items_of (list_at int32_at oids.left oids.rest.now)

abbrev pub values_left : Values → List (Option Text)
values_left values = items_of (list_at value_at values.left values.rest.now)

abbrev pub columns_left : Columns → List ColumnOf
columns_left columns = items_of (list_at column_at columns.left columns.rest.now)

abbrev pub pairs_left : Pairs → List (Text × Text)
pairs_left pairs = items_of (ended_at pair_at pairs.rest.now)

abbrev pub fields_left : Fields → List (ℕ × Text)
fields_left fields = items_of (ended_at field_at fields.rest.now)

-- what is signed as the unsigned number of the same bytes
abbrev pub shown_column : ColumnView → ColumnOf
shown_column v = record { name = v.name.now; table = v.table; number = v.number; type_oid = v.type_oid; size = cast_unsigned w16 v.size; modifier = cast_unsigned w32 v.modifier; format = v.format }
