-- What a lease book decides by under the settings (PgBouncer manual, "Connection limits" and "Databases").
use Rattle.std.specs.Prelude.{ℕ, List, map, unwrap_or}
use Rattle.ini_config.specs.declared.database_rows.DbRow.{DbRow}
use Rattle.ini_config.specs.declared.option_values.Settings.{Settings}
use Rattle.book_model.specs.Book.{Limits, Row}

-- a row with its own pool size, or with the default
abbrev pub row_in : ℕ → DbRow → Row
row_in default row = record { name = row.name; host = row.host; port = row.port; dbname = row.dbname; size = unwrap_or row.pool_size default }

abbrev pub rows_in : ℕ → List DbRow → List Row
rows_in default rows = map (row_in default) rows

abbrev pub limits_in : Settings → Limits
limits_in s = record {
  rows = rows_in s.default_pool_size s.rows;
  max_clients = s.max_client_conn;
  default_size = s.default_pool_size;
  max_links = s.max_links;
  wait_timeout = s.query_wait_timeout;
  lifetime = s.server_lifetime;
  idle_timeout = s.server_idle_timeout;
}

-- what an empty settings file says, over these rows
abbrev pub usual : List Row → Limits
usual rows = record {
  rows = rows;
  max_clients = 100;
  default_size = 20;
  max_links = 1000;
  wait_timeout = 120;
  lifetime = 3600;
  idle_timeout = 600;
}
