-- The keys of the section [pgbouncer] (PgBouncer manual, "Generic settings" and after).
use Rattle.std.specs.Prelude.{ℕ, Bool, true, false, not, ◌||◌, map, List, [], ◌∷◌, if◌then◌else◌, Option, Some, None, option_map, bytes_eq, codes}
use Rattle.std.specs.Str.{str_eq_ignore_ascii_case}
use Rattle.std.specs.List.{list_any, list_all, find}
use Rattle.neutral_keys.specs.ReadOver.{is_read_over}
use Rattle.ini_config.specs.Hosts.{listened, listen_addresses}
use Rattle.ini_config.specs.Values.{number_between, mode, names}
use Rattle.ini_config.specs.declared.faults.IniCause.{IniCause}
use Rattle.ini_config.specs.declared.faults.IniCause.TheVariants as cause
use Rattle.ini_config.specs.declared.option_keys.Key.{Key}
use Rattle.ini_config.specs.declared.option_keys.Key.TheVariants as key
use Rattle.ini_config.specs.declared.option_keys.Setting.{Setting}
use Rattle.ini_config.specs.declared.option_keys.Setting.TheVariants as setting
use Rattle.ini_config.specs.declared.option_values.AuthType.{AuthType}
use Rattle.ini_config.specs.declared.option_values.AuthType.TheVariants.{Trust, Plain, Md5, ScramSha256}
use Rattle.ini_config.specs.declared.option_values.ConsoleStyle.{ConsoleStyle}
use Rattle.ini_config.specs.declared.option_values.ConsoleStyle.TheVariants.{Own, PgBouncer}
use Rattle.ini_config.specs.declared.option_values.Settings.{Settings}

abbrev pub Text : Type 0
Text = List ℕ

-- ---- names of keys

-- the keys that are served
abbrev pub served : List (Text × Key)
served =
    (codes "listen_addr", key.ListenAddr) ∷ (codes "listen_port", key.ListenPort) ∷ (codes "auth_type", key.AuthType)
    ∷ (codes "admin_users", key.AdminUsers) ∷ (codes "pool_mode", key.PoolMode) ∷ (codes "server_reset_query", key.ServerResetQuery)
    ∷ (codes "max_client_conn", key.MaxClientConn) ∷ (codes "default_pool_size", key.DefaultPoolSize) ∷ (codes "max_links", key.MaxLinks)
    ∷ (codes "query_wait_timeout", key.QueryWaitTimeout) ∷ (codes "server_lifetime", key.ServerLifetime)
    ∷ (codes "server_idle_timeout", key.ServerIdleTimeout) ∷ (codes "max_packet_size", key.MaxPacketSize)
    ∷ (codes "ignore_startup_parameters", key.IgnoreStartupParameters) ∷ (codes "track_extra_parameters", key.TrackExtraParameters)
    ∷ (codes "log_connections", key.LogConnections) ∷ (codes "log_disconnections", key.LogDisconnections)
    ∷ (codes "untrack_parameters", key.UntrackParameters) ∷ (codes "unix_socket_dir", key.UnixSocketDir)
    ∷ (codes "unix_socket_mode", key.UnixSocketMode) ∷ (codes "unix_socket_group", key.UnixSocketGroup)
    ∷ (codes "peer_id", key.PeerId) ∷ (codes "tcp_keepalive", key.TcpKeepalive) ∷ (codes "tcp_keepidle", key.TcpKeepidle)
    ∷ (codes "tcp_keepintvl", key.TcpKeepintvl) ∷ (codes "tcp_keepcnt", key.TcpKeepcnt) ∷ (codes "tcp_user_timeout", key.TcpUserTimeout)
    ∷ (codes "server_connect_timeout", key.ServerConnectTimeout) ∷ (codes "client_login_timeout", key.ClientLoginTimeout)
    ∷ (codes "stats_users", key.StatsUsers) ∷ (codes "stats_period", key.StatsPeriod) ∷ (codes "log_stats", key.LogStats)
    ∷ (codes "console_style", key.ConsoleStyle) ∷ (codes "metrics_addr", key.MetricsAddr) ∷ (codes "metrics_port", key.MetricsPort) ∷ []

-- the key of a line: one that is read over at this value, else one that is served
unfoldable pub key_of : Text → Text → Option Key
key_of name value = if is_read_over name value then Some key.Unused else option_map (λ e. e.1) (find (λ e. bytes_eq e.0 name) served)

-- ---- values of keys

unfoldable pub auth_type : Text → Option AuthType
auth_type text =
    if bytes_eq text (codes "trust") then Some Trust else (
    if bytes_eq text (codes "plain") then Some Plain else (
    if bytes_eq text (codes "md5") then Some Md5 else (
    if bytes_eq text (codes "scram-sha-256") then Some ScramSha256 else None)))

unfoldable pub console_style : Text → Option ConsoleStyle
console_style text =
    if bytes_eq text (codes "pgsess") then Some Own else (
    if bytes_eq text (codes "pgbouncer") then Some PgBouncer else None)

-- a count of clients or links, and a time
abbrev pub count : Text → Option ℕ
count text = number_between 1 10000 text

abbrev pub seconds : Text → Option ℕ
seconds text = number_between 0 2147483647 text

-- a switch: on at 1, off at every other value
abbrev pub is_one : Text → Bool
is_one text = bytes_eq text (codes "1")

-- a switch that is on but at 0
abbrev pub is_zero : Text → Bool
is_zero text = bytes_eq text (codes "0")

-- the startup parameters that are followed, unless they are untracked
abbrev pub always_followed : List Text
always_followed = codes "client_encoding" ∷ codes "datestyle" ∷ codes "timezone" ∷ codes "standard_conforming_strings" ∷ codes "application_name" ∷ []

-- without regard to the case of ASCII letters
abbrev pub has_folded : List Text → Text → Bool
has_folded list name = list_any (λ n. str_eq_ignore_ascii_case n name) list

-- names of these alone
unfoldable pub untracked : Text → Option (List Text)
untracked text = if list_all (has_folded always_followed) (names text) then Some (names text) else None

-- what a key's value makes of the settings; none where it isn't a value of the key
unfoldable pub change_of : Key → Text → Option (Settings → Settings)
change_of key.ListenAddr text = option_map (λ a s. record s { listen_addr = a }) (listen_addresses text)
change_of key.ListenPort text = option_map (λ n s. record s { listen_port = n }) (number_between 1 65535 text)
change_of key.AuthType text = option_map (λ a s. record s { auth_type = a }) (auth_type text)
change_of key.AdminUsers text = Some (λ s. record s { admin_users = names text })
change_of key.PoolMode text = Some (λ s. s)
change_of key.ServerResetQuery text = Some (λ s. s)
change_of key.MaxClientConn text = option_map (λ n s. record s { max_client_conn = n }) (count text)
change_of key.DefaultPoolSize text = option_map (λ n s. record s { default_pool_size = n }) (count text)
change_of key.MaxLinks text = option_map (λ n s. record s { max_links = n }) (count text)
change_of key.QueryWaitTimeout text = option_map (λ n s. record s { query_wait_timeout = n }) (seconds text)
change_of key.ServerLifetime text = option_map (λ n s. record s { server_lifetime = n }) (seconds text)
change_of key.ServerIdleTimeout text = option_map (λ n s. record s { server_idle_timeout = n }) (seconds text)
change_of key.MaxPacketSize text = option_map (λ n s. record s { max_packet_size = n }) (number_between 1024 2147483647 text)
change_of key.IgnoreStartupParameters text = Some (λ s. record s { ignore_startup_parameters = names text })
change_of key.TrackExtraParameters text = Some (λ s. record s { track_extra_parameters = names text })
change_of key.LogConnections text = Some (λ s. record s { log_connections = is_one text })
change_of key.LogDisconnections text = Some (λ s. record s { log_disconnections = is_one text })
change_of key.UntrackParameters text = option_map (λ n s. record s { untrack_parameters = n }) (untracked text)
change_of key.UnixSocketDir text = Some (λ s. record s { unix_socket_dir = text })
change_of key.UnixSocketMode text = option_map (λ n s. record s { unix_socket_mode = n }) (mode text)
change_of key.UnixSocketGroup text = Some (λ s. record s { unix_socket_group = text })
change_of key.PeerId text = option_map (λ n s. record s { peer_id = n }) (number_between 0 127 text)
change_of key.TcpKeepalive text = Some (λ s. record s { tcp_keepalive = not (is_zero text) })
change_of key.TcpKeepidle text = option_map (λ n s. record s { tcp_keepidle = n }) (number_between 0 2147483647 text)
change_of key.TcpKeepintvl text = option_map (λ n s. record s { tcp_keepintvl = n }) (number_between 0 2147483647 text)
change_of key.TcpKeepcnt text = option_map (λ n s. record s { tcp_keepcnt = n }) (number_between 0 2147483647 text)
change_of key.TcpUserTimeout text = option_map (λ n s. record s { tcp_user_timeout = n }) (number_between 0 2147483647 text)
change_of key.ServerConnectTimeout text = option_map (λ n s. record s { server_connect_timeout = n }) (seconds text)
change_of key.ClientLoginTimeout text = option_map (λ n s. record s { client_login_timeout = n }) (seconds text)
change_of key.StatsUsers text = Some (λ s. record s { stats_users = names text })
change_of key.StatsPeriod text = option_map (λ n s. record s { stats_period = n }) (number_between 1 2147483647 text)
change_of key.LogStats text = Some (λ s. record s { log_stats = not (is_zero text) })
change_of key.ConsoleStyle text = option_map (λ c s. record s { console_style = c }) (console_style text)
change_of key.MetricsAddr text = option_map (λ a s. record s { metrics_addr = a }) (listen_addresses text)
change_of key.MetricsPort text = option_map (λ n s. record s { metrics_port = n }) (number_between 1 65535 text)
change_of key.Unused text = Some (λ s. s)

-- the one reset that is served, as a statement with its end or without
abbrev pub is_discard_all : Text → Bool
is_discard_all text = str_eq_ignore_ascii_case text (codes "discard all") || str_eq_ignore_ascii_case text (codes "discard all;")

-- what a value asks for that isn't served
unfoldable pub refusal : Key → Text → Option IniCause
refusal key.PoolMode text = if bytes_eq text (codes "session") then None else Some cause.PoolMode
refusal key.ServerResetQuery text = if is_discard_all text then None else Some cause.ResetQuery
refusal other text = None

-- the settings of an empty file
abbrev pub defaults : Settings
defaults = record {
  rows = [];
  listen_addr = codes "127.0.0.1" ∷ [];
  listen_port = 6432;
  auth_type = Md5;
  admin_users = [];
  max_client_conn = 100;
  default_pool_size = 20;
  max_links = 1000;
  query_wait_timeout = 120;
  server_lifetime = 3600;
  server_idle_timeout = 600;
  max_packet_size = 2147483647;
  ignore_startup_parameters = [];
  track_extra_parameters = codes "IntervalStyle" ∷ [];
  log_connections = false;
  log_disconnections = false;
  untrack_parameters = [];
  unix_socket_dir = [];
  unix_socket_mode = 511;
  unix_socket_group = [];
  peer_id = 0;
  tcp_keepalive = true;
  tcp_keepidle = 0;
  tcp_keepintvl = 0;
  tcp_keepcnt = 0;
  tcp_user_timeout = 0;
  server_connect_timeout = 15;
  client_login_timeout = 60;
  stats_users = [];
  stats_period = 60;
  log_stats = true;
  console_style = Own;
  metrics_addr = [];
  metrics_port = 9127;
}

-- ---- what the lists of names are for

-- the users of the console, byte for byte
abbrev pub is_admin : Settings → Text → Bool
is_admin s user = list_any (λ n. bytes_eq n user) s.admin_users

-- likewise those who may look at it, and do nothing there
abbrev pub may_look : Settings → Text → Bool
may_look s user = list_any (λ n. bytes_eq n user) s.stats_users

-- startup parameters
abbrev pub ignores : Settings → Text → Bool
ignores s name = has_folded s.ignore_startup_parameters name

abbrev pub tracks : Settings → Text → Bool
tracks s name = has_folded s.track_extra_parameters name

abbrev pub untracks : Settings → Text → Bool
untracks s name = has_folded s.untrack_parameters name

-- ---- the same of a value that was read

abbrev pub changed_by : Setting → Settings → Settings
changed_by (setting.ListenAddr text) s = record s { listen_addr = map listened (names text.now) }
changed_by (setting.ListenPort n) s = record s { listen_port = n }
changed_by (setting.AuthType a) s = record s { auth_type = a }
changed_by (setting.AdminUsers text) s = record s { admin_users = names text.now }
changed_by (setting.MaxClientConn n) s = record s { max_client_conn = n }
changed_by (setting.DefaultPoolSize n) s = record s { default_pool_size = n }
changed_by (setting.MaxLinks n) s = record s { max_links = n }
changed_by (setting.QueryWaitTimeout n) s = record s { query_wait_timeout = n }
changed_by (setting.ServerLifetime n) s = record s { server_lifetime = n }
changed_by (setting.ServerIdleTimeout n) s = record s { server_idle_timeout = n }
changed_by (setting.MaxPacketSize n) s = record s { max_packet_size = n }
changed_by (setting.IgnoreStartupParameters text) s = record s { ignore_startup_parameters = names text.now }
changed_by (setting.TrackExtraParameters text) s = record s { track_extra_parameters = names text.now }
changed_by (setting.LogConnections b) s = record s { log_connections = b }
changed_by (setting.LogDisconnections b) s = record s { log_disconnections = b }
changed_by (setting.UntrackParameters text) s = record s { untrack_parameters = names text.now }
changed_by (setting.UnixSocketDir text) s = record s { unix_socket_dir = text.now }
changed_by (setting.UnixSocketMode n) s = record s { unix_socket_mode = n }
changed_by (setting.UnixSocketGroup text) s = record s { unix_socket_group = text.now }
changed_by (setting.PeerId n) s = record s { peer_id = n }
changed_by (setting.TcpKeepalive b) s = record s { tcp_keepalive = b }
changed_by (setting.TcpKeepidle n) s = record s { tcp_keepidle = n }
changed_by (setting.TcpKeepintvl n) s = record s { tcp_keepintvl = n }
changed_by (setting.TcpKeepcnt n) s = record s { tcp_keepcnt = n }
changed_by (setting.TcpUserTimeout n) s = record s { tcp_user_timeout = n }
changed_by (setting.ServerConnectTimeout n) s = record s { server_connect_timeout = n }
changed_by (setting.ClientLoginTimeout n) s = record s { client_login_timeout = n }
changed_by (setting.StatsUsers text) s = record s { stats_users = names text.now }
changed_by (setting.StatsPeriod n) s = record s { stats_period = n }
changed_by (setting.LogStats b) s = record s { log_stats = b }
changed_by (setting.ConsoleStyle c) s = record s { console_style = c }
changed_by (setting.MetricsAddr text) s = record s { metrics_addr = map listened (names text.now) }
changed_by (setting.MetricsPort n) s = record s { metrics_port = n }
changed_by setting.Nothing s = s
