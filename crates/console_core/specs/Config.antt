-- What the console shows of the settings, as rows of texts: each key of the section [pgbouncer] that is served, but for log_connections and
-- log_disconnections, with its value as a settings file could say it.
use Rattle.std.specs.Prelude.{Bool, ℕ, ◌+◌, ◌/◌, ◌%◌, List, [], ◌∷◌, ◌++◌, codes, decimal, if◌then◌else◌}
use Rattle.std.specs.List.{flat_map}
use Rattle.ini_config.specs.declared.option_values.AuthType.{AuthType}
use Rattle.ini_config.specs.declared.option_values.AuthType.TheVariants.{Trust, Plain, Md5, ScramSha256}
use Rattle.ini_config.specs.declared.option_values.ConsoleStyle.{ConsoleStyle}
use Rattle.ini_config.specs.declared.option_values.ConsoleStyle.TheVariants.{Own, PgBouncer}
use Rattle.ini_config.specs.declared.option_values.Settings.{Settings}
use Rattle.mini_sql.specs.Words.{Text}

abbrev pub octal_digit : ℕ → ℕ
octal_digit n = 48 + n % 8

-- nine bits as a zero and three octal digits
abbrev pub octal : ℕ → Text
octal mode = 48 ∷ octal_digit (mode / 64) ∷ octal_digit (mode / 8) ∷ octal_digit mode ∷ []

abbrev pub flag : Bool → Text
flag is_on = if is_on then codes "1" else codes "0"

abbrev pub behind_comma : Text → Text
behind_comma name = 44 ∷ name

-- names with commas between
abbrev pub joined : List Text → Text
joined [] = []
joined (name ∷ names) = name ++ flat_map behind_comma names

abbrev pub auth_name : AuthType → Text
auth_name Trust = codes "trust"
auth_name Plain = codes "plain"
auth_name Md5 = codes "md5"
auth_name ScramSha256 = codes "scram-sha-256"

abbrev pub style_name : ConsoleStyle → Text
style_name Own = codes "pgsess"
style_name PgBouncer = codes "pgbouncer"

abbrev pub setting : Text → Text → List Text
setting key value = key ∷ value ∷ []

abbrev pub config : Settings → List (List Text)
config s =
    setting (codes "listen_addr") (joined s.listen_addr)
    ∷ setting (codes "listen_port") (decimal s.listen_port)
    ∷ setting (codes "auth_type") (auth_name s.auth_type)
    ∷ setting (codes "admin_users") (joined s.admin_users)
    ∷ setting (codes "pool_mode") (codes "session")
    ∷ setting (codes "server_reset_query") (codes "DISCARD ALL")
    ∷ setting (codes "max_client_conn") (decimal s.max_client_conn)
    ∷ setting (codes "default_pool_size") (decimal s.default_pool_size)
    ∷ setting (codes "max_links") (decimal s.max_links)
    ∷ setting (codes "query_wait_timeout") (decimal s.query_wait_timeout)
    ∷ setting (codes "server_lifetime") (decimal s.server_lifetime)
    ∷ setting (codes "server_idle_timeout") (decimal s.server_idle_timeout)
    ∷ setting (codes "max_packet_size") (decimal s.max_packet_size)
    ∷ setting (codes "ignore_startup_parameters") (joined s.ignore_startup_parameters)
    ∷ setting (codes "track_extra_parameters") (joined s.track_extra_parameters)
    ∷ setting (codes "untrack_parameters") (joined s.untrack_parameters)
    ∷ setting (codes "unix_socket_dir") s.unix_socket_dir
    ∷ setting (codes "unix_socket_mode") (octal s.unix_socket_mode)
    ∷ setting (codes "unix_socket_group") s.unix_socket_group
    ∷ setting (codes "peer_id") (decimal s.peer_id)
    ∷ setting (codes "tcp_keepalive") (flag s.tcp_keepalive)
    ∷ setting (codes "tcp_keepidle") (decimal s.tcp_keepidle)
    ∷ setting (codes "tcp_keepintvl") (decimal s.tcp_keepintvl)
    ∷ setting (codes "tcp_keepcnt") (decimal s.tcp_keepcnt)
    ∷ setting (codes "tcp_user_timeout") (decimal s.tcp_user_timeout)
    ∷ setting (codes "server_connect_timeout") (decimal s.server_connect_timeout)
    ∷ setting (codes "client_login_timeout") (decimal s.client_login_timeout)
    ∷ setting (codes "stats_users") (joined s.stats_users)
    ∷ setting (codes "stats_period") (decimal s.stats_period)
    ∷ setting (codes "log_stats") (flag s.log_stats)
    ∷ setting (codes "metrics_addr") (joined s.metrics_addr)
    ∷ setting (codes "metrics_port") (decimal s.metrics_port)
    ∷ setting (codes "console_style") (style_name s.console_style)
    ∷ []
