-- The columns of the tables, each told as a family of metrics (OpenMetrics 1.0; the names are those of prometheus-community's pgbouncer_exporter, and this project's own).
use Rattle.std.specs.Prelude.{List, [], ◌∷◌, codes}
use Rattle.log_lines.specs.Shown.{Text}
use Rattle.metrics_text.specs.declared.columns.Kind.{Kind}
use Rattle.metrics_text.specs.declared.columns.Kind.TheVariants.{Gauge, Counter, Info}
use Rattle.metrics_text.specs.declared.columns.Measure.{Measure}
use Rattle.metrics_text.specs.declared.columns.Measure.TheVariants.{Count, Bytes, Seconds, Microseconds}

-- a family: its name, what its metrics are and measure, and what it is for
pub record ColumnOf : Type 0 where
  pub name : Text
  pub kind : Kind
  pub measure : Measure
  pub help : Text

abbrev column : Kind → Measure → Text → Text → ColumnOf
column kind measure name help = record { name = name; kind = kind; measure = measure; help = help }

abbrev info : Text → Text → ColumnOf
info = column Info Count

abbrev gauge : Text → Text → ColumnOf
gauge = column Gauge Count

abbrev seconds_gauge : Text → Text → ColumnOf
seconds_gauge = column Gauge Seconds

abbrev counter : Text → Text → ColumnOf
counter = column Counter Count

abbrev bytes_counter : Text → Text → ColumnOf
bytes_counter = column Counter Bytes

abbrev time_counter : Text → Text → ColumnOf
time_counter = column Counter Microseconds

-- what answers
unfoldable pub version_columns : List ColumnOf
version_columns =
    info (codes "pgbouncer_version") (codes "What answers.")
    ∷ []

-- the pooler as a whole
unfoldable pub pooler_columns : List ColumnOf
pooler_columns =
    gauge (codes "pgbouncer_up") (codes "Whether the pooler answers.")
    ∷ gauge (codes "pgbouncer_databases") (codes "Rows of the section [databases].")
    ∷ gauge (codes "pgbouncer_users") (codes "Users of the user file.")
    ∷ gauge (codes "pgbouncer_pools") (codes "Pairs of a database and a user that have a link or a client that waits.")
    ∷ gauge (codes "pgbouncer_free_clients") (codes "Always 0.")
    ∷ gauge (codes "pgbouncer_used_clients") (codes "Clients that are there.")
    ∷ gauge (codes "pgbouncer_login_clients") (codes "Clients in their login.")
    ∷ gauge (codes "pgbouncer_free_servers") (codes "Always 0.")
    ∷ gauge (codes "pgbouncer_used_servers") (codes "Links, lent and idle.")
    ∷ gauge (codes "pgbouncer_config_max_client_connections") (codes "The setting max_client_conn.")
    ∷ gauge (codes "pgsess_clients") (codes "Clients that are there.")
    ∷ gauge (codes "pgsess_paused") (codes "Whether no link is lent until RESUME.")
    ∷ gauge (codes "pgsess_shutting_down") (codes "Whether no client is let in any more.")
    ∷ counter (codes "pgsess_decisions") (codes "Decisions of the lease book.")
    ∷ counter (codes "pgsess_links_started") (codes "Links that were started.")
    ∷ counter (codes "pgsess_links_reused") (codes "Times that an idle link was lent again.")
    ∷ counter (codes "pgsess_links_evicted") (codes "Idle links that were closed for another's start.")
    ∷ counter (codes "pgsess_links_lost") (codes "Links that were lost, or failed to start.")
    ∷ []

-- each row of the databases
unfoldable pub database_columns : List ColumnOf
database_columns =
    gauge (codes "pgbouncer_databases_pool_size") (codes "The most links of a pool.")
    ∷ gauge (codes "pgbouncer_databases_reserve_pool") (codes "Always 0.")
    ∷ gauge (codes "pgbouncer_databases_current_connections") (codes "Links to the database, lent and idle.")
    ∷ gauge (codes "pgbouncer_databases_max_connections") (codes "Always 0: only its pools are limited.")
    ∷ gauge (codes "pgbouncer_databases_paused") (codes "Whether no link is lent until RESUME.")
    ∷ gauge (codes "pgbouncer_databases_disabled") (codes "Whether no link is lent any more.")
    ∷ []

-- each pool
unfoldable pub pool_columns : List ColumnOf
pool_columns =
    gauge (codes "pgbouncer_pools_client_active_connections") (codes "Clients that have a link.")
    ∷ gauge (codes "pgbouncer_pools_client_waiting_connections") (codes "Clients that wait for a link.")
    ∷ gauge (codes "pgbouncer_pools_server_active_connections") (codes "Links that are lent.")
    ∷ gauge (codes "pgbouncer_pools_server_idle_connections") (codes "Links that are idle.")
    ∷ gauge (codes "pgbouncer_pools_server_used_connections") (codes "Always 0.")
    ∷ gauge (codes "pgbouncer_pools_server_testing_connections") (codes "Always 0.")
    ∷ gauge (codes "pgbouncer_pools_server_login_connections") (codes "Always 0.")
    ∷ seconds_gauge (codes "pgbouncer_pools_client_maxwait_seconds") (codes "For how long the client has waited that asked first.")
    ∷ gauge (codes "pgbouncer_pools_client_active_cancel_connections") (codes "Always 0.")
    ∷ gauge (codes "pgbouncer_pools_client_waiting_cancel_connections") (codes "Always 0.")
    ∷ gauge (codes "pgbouncer_pools_server_active_cancel_connections") (codes "Always 0.")
    ∷ gauge (codes "pgbouncer_pools_server_being_canceled_connections") (codes "Always 0.")
    ∷ []

-- what went through each database
unfoldable pub stats_columns : List ColumnOf
stats_columns =
    counter (codes "pgbouncer_stats_sql_transactions_pooled") (codes "Transactions that ended.")
    ∷ counter (codes "pgbouncer_stats_queries_pooled") (codes "Queries that were answered.")
    ∷ bytes_counter (codes "pgbouncer_stats_received_bytes") (codes "Bytes that came from clients.")
    ∷ bytes_counter (codes "pgbouncer_stats_sent_bytes") (codes "Bytes that went to clients.")
    ∷ time_counter (codes "pgbouncer_stats_server_in_transaction_seconds") (codes "Time within transactions.")
    ∷ time_counter (codes "pgbouncer_stats_queries_duration_seconds") (codes "Time in which queries were under way.")
    ∷ time_counter (codes "pgbouncer_stats_client_wait_seconds") (codes "Time in which clients waited for a link.")
    ∷ counter (codes "pgbouncer_stats_server_assignments") (codes "Links that were granted to clients.")
    ∷ counter (codes "pgbouncer_stats_queries") (codes "As many as pgbouncer_stats_queries_pooled_total.")
    ∷ []
