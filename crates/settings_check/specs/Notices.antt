-- What is said of a settings file without a fault: what is read over, and where it differs from PgBouncer.
use Rattle.std.specs.Prelude.{Bool, List, [], ◌∷◌, ◌++◌, ◌||◌, Option, Some, None, is_none, if◌then◌else◌, bytes_eq, codes}
use Rattle.std.specs.List.{flat_map}
use Rattle.text_lines.specs.Files.{Line}
use Rattle.log_lines.specs.Shown.{Text}
use Rattle.settings_check.specs.Options.{read_over, value_given}

-- with commas between
abbrev pub listed : List Text → Text
listed [] = []
listed (name ∷ names) = name ++ flat_map (λ n. codes ", " ++ n) names

abbrev pub over_notice : List Text → List Text
over_notice [] = []
over_notice (name ∷ names) = (codes "read over: " ++ listed (name ∷ names)) ∷ []

abbrev pub tls_notice : Option Text → List Text
tls_notice None = []
tls_notice (Some value) =
    if bytes_eq value (codes "allow") || bytes_eq value (codes "prefer") then (codes "no TLS to servers (server_tls_sslmode = " ++ value ++ codes ")") ∷ [] else []

-- what the pool's start says
abbrev pub notices : Bool → List Line → List Text
notices uses_auth_file lines = over_notice (read_over uses_auth_file lines) ++ tls_notice (value_given (codes "server_tls_sslmode") lines)

-- keys whose default isn't PgBouncer's, and what that comes to
abbrev pub unlike : List (Text × Text)
unlike =
    (codes "listen_addr", codes "listen_addr is not set: it is 127.0.0.1; PgBouncer listens on no address then")
    ∷ (codes "unix_socket_dir", codes "unix_socket_dir is not set: there is no Unix socket; PgBouncer's is in /tmp then")
    ∷ (codes "log_connections", codes "log_connections is not set: it is 0; PgBouncer's is 1 then")
    ∷ (codes "log_disconnections", codes "log_disconnections is not set: it is 0; PgBouncer's is 1 then")
    ∷ (codes "server_tls_sslmode", codes "server_tls_sslmode is not set: there is no TLS to servers; PgBouncer has it where they do") ∷ []

-- those that the file doesn't set
abbrev pub differences : List Line → List Text
differences lines = flat_map (λ u. if is_none (value_given u.0 lines) then u.1 ∷ [] else []) unlike
