-- What is told of a pool: tables over its lease book's view (v), what is known beside it (x) and the settings (s). Each figure is that of the console's tables.
use Rattle.std.specs.Prelude.{ℕ, List, [], ◌∷◌, ◌++◌, codes, count_by, decimal, length, map}
use Rattle.ini_config.specs.declared.option_values.Settings.{Settings}
use Rattle.session_values.specs.State.{StartKeyOf}
use Rattle.book_model.specs.Book.{Row}
use Rattle.book_register.specs.Views.{View}
use Rattle.console_core.specs.Tables.{pool_counts, pool_keys}
use Rattle.monitor_core.specs.Tables.{is_logging_in, links_to, longest_wait, switch}
use Rattle.pool_figures.specs.Figures.{sum, totals}
use Rattle.pool_figures.specs.Seen.{DatabaseOf, SeenOf}
use Rattle.log_lines.specs.Shown.{Text}
use Rattle.metrics_text.specs.Columns.{database_columns, pool_columns, pooler_columns, stats_columns, version_columns}
use Rattle.metrics_text.specs.Families.{RowOf, table}
use Rattle.metrics_text.specs.Labels.{labels_text}

abbrev pub row : List (Text × Text) → List ℕ → RowOf
row labels figures = record { labels = labels_text labels; figures = figures }

unfoldable pub version_row : RowOf
version_row = row ((codes "version", codes "pgsess 1") ∷ []) (1 ∷ [])

-- that it answers; what there are how many of, where there are so many pools; the limit of clients; how it stands; and what the book has decided
unfoldable pub pooler_row : View → SeenOf → Settings → ℕ → RowOf
pooler_row v x s pools = record {
  labels = [];
  figures =
      1 ∷ length v.limits.rows ∷ length x.users ∷ pools ∷ 0 ∷ length v.clients ∷ count_by is_logging_in v.clients ∷ 0 ∷ sum (length v.lent) (length v.idle) ∷ []
      ++ s.max_client_conn ∷ length v.clients ∷ switch v.is_paused ∷ switch v.is_shut ∷ []
      ++ v.decisions ∷ v.starts ∷ v.reuses ∷ v.evictions ∷ v.losses ∷ [];
}

abbrev pub labels_at : Row → Text → List (Text × Text)
labels_at r port =
    (codes "name", r.name) ∷ (codes "host", r.host) ∷ (codes "port", port) ∷ (codes "database", r.dbname)
    ∷ (codes "force_user", []) ∷ (codes "pool_mode", codes "session") ∷ []

abbrev pub database_labels : Row → List (Text × Text)
database_labels r = labels_at r (decimal r.port)

unfoldable pub database_row : View → Row → RowOf
database_row v r = row (database_labels r) (r.size ∷ 0 ∷ links_to r.name v ∷ 0 ∷ switch v.is_paused ∷ switch v.is_shut ∷ [])

abbrev pub pool_labels : StartKeyOf → List (Text × Text)
pool_labels pool = (codes "database", pool.row) ∷ (codes "user", pool.user) ∷ []

unfoldable pub pool_row : View → StartKeyOf → RowOf
pool_row v pool = row (pool_labels pool) (pool_counts v pool ++ 0 ∷ 0 ∷ 0 ∷ longest_wait v pool ∷ 0 ∷ 0 ∷ 0 ∷ 0 ∷ [])

unfoldable pub stats_row : DatabaseOf → RowOf
stats_row d = row ((codes "database", d.name) ∷ []) (totals d.total ++ d.total.leases ∷ d.total.queries ∷ [])

abbrev pub metrics : View → SeenOf → Settings → Text
metrics v x s =
    table version_columns (version_row ∷ []) ++ table pooler_columns (pooler_row v x s (length (pool_keys v)) ∷ [])
    ++ table database_columns (map (database_row v) v.limits.rows) ++ table pool_columns (map (pool_row v) (pool_keys v))
    ++ table stats_columns (map stats_row x.databases) ++ (codes "# EOF" ++ 10 ∷ [])
