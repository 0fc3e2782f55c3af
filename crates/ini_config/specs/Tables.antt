-- The table of database rows, and which row serves a database (PgBouncer manual, "Section [databases]").
use Rattle.std.specs.Prelude.{ℕ, Bool, List, Option, None, ◌&&◌, if◌then◌else◌, length, nat_le, option_copied, option_map, bytes_eq, codes}
use Rattle.std.specs.List.{find}
use Rattle.std.specs.Option.{option_or}
use Rattle.ini_config.specs.DatabaseValues.{is_database}
use Rattle.ini_config.specs.declared.database_rows.DbRow.{DbRow}
use Rattle.ini_config.specs.declared.database_rows.ServedRow.{ServedRow}

-- the first row with the name
abbrev pub row_named : List ℕ → List DbRow → Option DbRow
row_named name rows = find (λ row. bytes_eq name row.name) rows

-- the row by which databases are served that no other row names
abbrev pub wildcard : List ℕ
wildcard = codes "*"

-- the longest name that PostgreSQL has ("Identifiers and Key Words")
abbrev pub longest_name : ℕ
longest_name = 63

abbrev pub is_database_name : List ℕ → Bool
is_database_name name = is_database name && nat_le (length name) longest_name

-- a row of another name: `*` is that for the server's database where no other is said
abbrev pub row_as : List ℕ → DbRow → DbRow
row_as name row = record row { name = name; dbname = if bytes_eq row.dbname wildcard then name else row.dbname }

-- `*`'s, under the name of the database
abbrev pub wildcard_row : List ℕ → List DbRow → Option DbRow
wildcard_row name rows = if is_database_name name then option_map (row_as name) (row_named wildcard rows) else None

-- the row that serves a database: that of its name, else `*`'s
abbrev pub row_for : List ℕ → List DbRow → Option DbRow
row_for name rows = option_or (row_named name rows) (wildcard_row name rows)

-- the same of what is lent
abbrev pub row_of_served : ServedRow → DbRow
row_of_served r = record { name = r.name.now; host = r.host.now; port = r.port; dbname = r.dbname.now; pool_size = r.pool_size; user = option_copied r.user; password = option_copied r.password }
