-- The columns of the tables, with their types (PgBouncer manual, "Admin console"; what stands in SHOW ACTIVITY is this project's own).
use Rattle.std.specs.Prelude.{ℕ, List, [], ◌∷◌, ◌++◌, length, map, codes}
use Rattle.std.specs.List.{flat_map}
use Rattle.frame_view.specs.Frames.{FrameOf}
use Rattle.frame_view.specs.declared.server.TheConstants.{ROW_DESCRIPTION}
use Rattle.message_view.specs.Bodies.{int16, int32, minus_one16, minus_one32}
use Rattle.message_view.specs.Messages.{message}
use Rattle.mini_sql.specs.Words.{Text}
use Rattle.monitor_core.specs.declared.asking.Table.{Table}
use Rattle.monitor_core.specs.declared.asking.Table.TheVariants as table
use Rattle.monitor_core.specs.declared.columns.Kind.{Kind}
use Rattle.monitor_core.specs.declared.columns.Kind.TheVariants as kind

-- the types text, int4, int8 and numeric (PostgreSQL, pg_type.dat)
abbrev pub type_oid : Kind → ℕ
type_oid kind.Text = 25
type_oid kind.Int4 = 23
type_oid kind.Int8 = 20
type_oid kind.Numeric = 1700

abbrev pub size : Kind → ℕ
size kind.Text = minus_one16
size kind.Int4 = 4
size kind.Int8 = 8
size kind.Numeric = minus_one16

-- What stands behind a column's name: the zero byte that ends it; no table, and no number in one; its type, the type's size, and no modifier; the text
-- format.
abbrev pub behind_name : Kind → List ℕ
behind_name k = 0 ∷ int32 0 ++ int16 0 ++ int32 (type_oid k) ++ int16 (size k) ++ int32 minus_one32 ++ int16 0

abbrev pub column : Kind → Text → List ℕ
column k name = name ++ behind_name k

-- columns of one type
pub record GroupOf : Type 0 where
  pub kind : Kind
  pub names : List Text

abbrev pub group_text : GroupOf → List ℕ
group_text g = flat_map (column g.kind) g.names

-- the names of all columns
abbrev pub names_of : List GroupOf → List Text
names_of groups = flat_map (λ g. g.names) groups

abbrev pub heading : List GroupOf → FrameOf
heading groups = message ROW_DESCRIPTION (int16 (length (names_of groups)) ++ flat_map group_text groups)

abbrev group : Kind → List Text → GroupOf
group k names = record { kind = k; names = names }

unfoldable pub groups : Table → List GroupOf
groups table.Stats = group kind.Text (codes "database" ∷ []) ∷ group kind.Numeric (codes "total_xact_count" ∷ codes "total_query_count" ∷ codes "total_received" ∷ codes "total_sent" ∷ codes "total_xact_time" ∷ codes "total_query_time" ∷ codes "total_wait_time" ∷ codes "avg_xact_count" ∷ codes "avg_query_count" ∷ codes "avg_recv" ∷ codes "avg_sent" ∷ codes "avg_xact_time" ∷ codes "avg_query_time" ∷ codes "avg_wait_time" ∷ codes "total_server_assignment_count" ∷ codes "avg_server_assignment_count" ∷ codes "total_client_parse_count" ∷ codes "total_server_parse_count" ∷ codes "total_bind_count" ∷ codes "avg_client_parse_count" ∷ codes "avg_server_parse_count" ∷ codes "avg_bind_count" ∷ codes "total_requests" ∷ []) ∷ []
groups table.StatsTotals = group kind.Text (codes "database" ∷ []) ∷ group kind.Numeric (codes "xact_count" ∷ codes "query_count" ∷ codes "bytes_received" ∷ codes "bytes_sent" ∷ codes "xact_time" ∷ codes "query_time" ∷ codes "wait_time" ∷ codes "server_assignment_count" ∷ codes "client_parse_count" ∷ codes "server_parse_count" ∷ codes "bind_count" ∷ []) ∷ []
groups table.StatsAverages = group kind.Text (codes "database" ∷ []) ∷ group kind.Numeric (codes "xact_count" ∷ codes "query_count" ∷ codes "bytes_received" ∷ codes "bytes_sent" ∷ codes "xact_time" ∷ codes "query_time" ∷ codes "wait_time" ∷ codes "server_assignment_count" ∷ codes "avg_client_parse_count" ∷ codes "avg_server_parse_count" ∷ codes "avg_bind_count" ∷ []) ∷ []
groups table.Lists = group kind.Text (codes "list" ∷ []) ∷ group kind.Int4 (codes "items" ∷ []) ∷ []
groups table.Databases = group kind.Text (codes "name" ∷ codes "host" ∷ []) ∷ group kind.Int4 (codes "port" ∷ []) ∷ group kind.Text (codes "database" ∷ codes "force_user" ∷ []) ∷ group kind.Int4 (codes "pool_size" ∷ codes "min_pool_size" ∷ codes "reserve_pool" ∷ []) ∷ group kind.Text (codes "pool_mode" ∷ []) ∷ group kind.Int4 (codes "max_connections" ∷ codes "current_connections" ∷ codes "paused" ∷ codes "disabled" ∷ codes "reserve_pool_size" ∷ codes "server_lifetime" ∷ []) ∷ group kind.Text (codes "load_balance_hosts" ∷ []) ∷ group kind.Int4 (codes "max_client_connections" ∷ codes "current_client_connections" ∷ []) ∷ []
groups table.State = group kind.Text (codes "key" ∷ codes "value" ∷ []) ∷ []
groups table.Activity = group kind.Int8 (codes "client" ∷ []) ∷ group kind.Text (codes "user" ∷ codes "database" ∷ codes "address" ∷ []) ∷ group kind.Int8 (codes "connected_ms" ∷ []) ∷ group kind.Text (codes "state" ∷ []) ∷ group kind.Int8 (codes "state_ms" ∷ codes "link" ∷ codes "server_pid" ∷ codes "transactions" ∷ codes "queries" ∷ codes "received" ∷ codes "sent" ∷ []) ∷ []
groups table.Pools = group kind.Text (codes "database" ∷ codes "user" ∷ []) ∷ group kind.Int4 (codes "cl_active" ∷ codes "cl_waiting" ∷ codes "sv_active" ∷ codes "sv_idle" ∷ codes "sv_used" ∷ codes "sv_tested" ∷ codes "sv_login" ∷ codes "maxwait" ∷ codes "maxwait_us" ∷ []) ∷ group kind.Text (codes "pool_mode" ∷ []) ∷ group kind.Int4 (codes "cl_active_cancel_req" ∷ codes "cl_waiting_cancel_req" ∷ codes "sv_active_cancel" ∷ codes "sv_being_canceled" ∷ []) ∷ group kind.Text (codes "load_balance_hosts" ∷ []) ∷ []
groups table.Clients = group kind.Text (codes "type" ∷ codes "user" ∷ codes "database" ∷ codes "state" ∷ codes "addr" ∷ []) ∷ group kind.Int4 (codes "port" ∷ []) ∷ group kind.Text (codes "local_addr" ∷ []) ∷ group kind.Int4 (codes "local_port" ∷ []) ∷ group kind.Text (codes "connect_time" ∷ codes "request_time" ∷ []) ∷ group kind.Int4 (codes "wait" ∷ codes "wait_us" ∷ codes "close_needed" ∷ []) ∷ group kind.Text (codes "ptr" ∷ codes "link" ∷ []) ∷ group kind.Int4 (codes "remote_pid" ∷ []) ∷ group kind.Text (codes "tls" ∷ codes "application_name" ∷ codes "replication" ∷ []) ∷ group kind.Int4 (codes "prepared_statements" ∷ []) ∷ group kind.Int8 (codes "id" ∷ []) ∷ []
groups table.Servers = group kind.Text (codes "type" ∷ codes "user" ∷ codes "database" ∷ codes "state" ∷ codes "addr" ∷ []) ∷ group kind.Int4 (codes "port" ∷ []) ∷ group kind.Text (codes "local_addr" ∷ []) ∷ group kind.Int4 (codes "local_port" ∷ []) ∷ group kind.Text (codes "connect_time" ∷ codes "request_time" ∷ []) ∷ group kind.Int4 (codes "wait" ∷ codes "wait_us" ∷ codes "close_needed" ∷ []) ∷ group kind.Text (codes "ptr" ∷ codes "link" ∷ []) ∷ group kind.Int4 (codes "remote_pid" ∷ []) ∷ group kind.Text (codes "tls" ∷ codes "application_name" ∷ codes "replication" ∷ []) ∷ group kind.Int4 (codes "prepared_statements" ∷ []) ∷ group kind.Int8 (codes "id" ∷ []) ∷ []
groups table.Config = group kind.Text (codes "key" ∷ codes "value" ∷ codes "default" ∷ codes "changeable" ∷ []) ∷ []
groups table.Version = group kind.Text (codes "version" ∷ []) ∷ []
groups table.Totals = group kind.Text (codes "name" ∷ []) ∷ group kind.Numeric (codes "value" ∷ []) ∷ []
groups table.Users = group kind.Text (codes "name" ∷ codes "pool_mode" ∷ []) ∷ []
groups table.Decisions = group kind.Int8 (codes "number" ∷ codes "pass" ∷ []) ∷ group kind.Text (codes "event" ∷ []) ∷ group kind.Int8 (codes "of" ∷ []) ∷ group kind.Text (codes "reply" ∷ []) ∷ group kind.Int8 (codes "to" ∷ []) ∷ []
