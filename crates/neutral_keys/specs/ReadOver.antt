-- The keys of PgBouncer 1.24 that are read over: what they ask for is done without them, or isn't asked for at this value
-- (PgBouncer manual, "Generic settings" and after; "Section [databases]").
use Rattle.std.specs.Prelude.{ℕ, Bool, List, [], ◌∷◌, ◌&&◌, ◌||◌, bytes_eq, codes}
use Rattle.std.specs.List.{list_any}

abbrev pub Text : Type 0
Text = List ℕ

-- ---- in [pgbouncer]

-- at any value: where its log goes, how its own works are tuned, or what has no effect without another key at a value that is refused
unfoldable pub at_any_value : List Text
at_any_value =
    codes "auth_file" ∷ codes "logfile" ∷ codes "pidfile" ∷ codes "syslog" ∷ codes "verbose" ∷ codes "log_pooler_errors" ∷ codes "job_name"
    ∷ codes "pkt_buf" ∷ codes "listen_backlog" ∷ codes "server_check_delay" ∷ codes "server_login_retry" ∷ codes "server_reset_query_always"
    ∷ codes "syslog_facility" ∷ codes "syslog_ident" ∷ codes "service_name" ∷ codes "conffile" ∷ codes "reserve_pool_timeout"
    ∷ codes "autodb_idle_timeout" ∷ codes "cancel_wait_timeout" ∷ codes "suspend_timeout" ∷ codes "server_check_query"
    ∷ codes "max_prepared_statements" ∷ codes "sbuf_loopcnt" ∷ codes "tcp_defer_accept" ∷ codes "tcp_socket_buffer" ∷ codes "dns_max_ttl"
    ∷ codes "dns_nxdomain_ttl" ∷ codes "client_tls_ca_file" ∷ codes "client_tls_key_file" ∷ codes "client_tls_cert_file"
    ∷ codes "client_tls_protocols" ∷ codes "client_tls_ciphers" ∷ codes "client_tls_ecdhcurve" ∷ codes "client_tls_dheparams" ∷ []

-- at this value, at which it asks for nothing that isn't done; of TLS to servers `allow` and `prefer` do without
unfoldable pub at_one_value : List (Text × Text)
at_one_value =
    (codes "min_pool_size", codes "0") ∷ (codes "reserve_pool_size", codes "0") ∷ (codes "max_db_connections", codes "0")
    ∷ (codes "max_user_connections", codes "0") ∷ (codes "max_db_client_connections", codes "0")
    ∷ (codes "max_user_client_connections", codes "0") ∷ (codes "query_timeout", codes "0") ∷ (codes "client_idle_timeout", codes "0")
    ∷ (codes "idle_transaction_timeout", codes "0") ∷ (codes "server_fast_close", codes "0") ∷ (codes "disable_pqexec", codes "0")
    ∷ (codes "application_name_add_host", codes "0") ∷ (codes "server_round_robin", codes "0") ∷ (codes "dns_zone_check_period", codes "0")
    ∷ (codes "so_reuseport", codes "0") ∷ (codes "so_reuseport", codes "1") ∷ (codes "resolv_conf", codes "")
    ∷ (codes "auth_dbname", codes "") ∷ (codes "auth_ident_file", codes "") ∷ (codes "auth_hba_file", codes "")
    ∷ (codes "auth_query", codes "") ∷ (codes "auth_user", codes "") ∷ (codes "user", codes "")
    ∷ (codes "client_tls_sslmode", codes "disable") ∷ (codes "server_tls_sslmode", codes "disable")
    ∷ (codes "server_tls_sslmode", codes "allow") ∷ (codes "server_tls_sslmode", codes "prefer") ∷ []

-- ---- in a row of [databases]

unfoldable pub at_one_value_in_row : List (Text × Text)
at_one_value_in_row =
    (codes "pool_mode", codes "session") ∷ (codes "min_pool_size", codes "0") ∷ (codes "reserve_pool", codes "0")
    ∷ (codes "reserve_pool_size", codes "0") ∷ (codes "max_db_connections", codes "0") ∷ (codes "max_db_client_connections", codes "0") ∷ []

-- ---- what a table says of a key and its value

abbrev pub has_name : List Text → Text → Bool
has_name list name = list_any (λ k. bytes_eq k name) list

abbrev pub has_pair : List (Text × Text) → Text → Text → Bool
has_pair table name value = list_any (λ e. bytes_eq e.0 name && bytes_eq e.1 value) table

unfoldable pub is_read_over : Text → Text → Bool
is_read_over name value = has_name at_any_value name || has_pair at_one_value name value

unfoldable pub is_read_over_in_row : Text → Text → Bool
is_read_over_in_row name value = has_pair at_one_value_in_row name value
