-- Which of a pool's notes are logged, which settings it has from its start on, and how its connections are kept alive.
use Rattle.std.specs.Prelude.{ℕ, List, [], ◌∷◌, Bool, true, not, ◌==◌, ◌||◌, Option, Some, None, if◌then◌else◌, bytes_eq, codes}
use Rattle.std.specs.List.{list_all, list_any}
use Rattle.std.specs.Borrow.{Bor}
use Rattle.keep_alive.specs.declared.Keepalive.{Keepalive}
use Rattle.ini_config.specs.declared.option_values.Settings.{Settings}
use Rattle.log_lines.specs.declared.notes.Note.{Note}
use Rattle.log_lines.specs.declared.notes.Note.TheVariants as note

-- that a client came, was lent a link or went, where the settings say so; and all else
abbrev pub is_logged : Settings → Note → Bool
is_logged settings note.LoggedIn = settings.log_connections
is_logged settings (note.Lent number server process) = settings.log_connections
is_logged settings note.Closed = settings.log_disconnections
is_logged settings other = true

-- ---- which settings it has from its start on, though the files may say others at a RELOAD

-- each of one's names is one of the other's
abbrev pub are_among : List (List ℕ) → List (List ℕ) → Bool
are_among names others = list_all (λ n. list_any (λ m. bytes_eq m n) others) names

abbrev pub names_differ : List (List ℕ) → List (List ℕ) → Bool
names_differ a b = not (are_among a b) || not (are_among b a)

abbrev pub switches_differ : Bool → Bool → Bool
switches_differ a b = not (if a then b else not b)

abbrev pub numbers_differ : ℕ → ℕ → Bool
numbers_differ a b = not (a == b)

abbrev pub texts_differ : List ℕ → List ℕ → Bool
texts_differ a b = not (bytes_eq a b)

-- those of its listeners and its keys, by name, and whether the files say another now
abbrev pub of_listeners : Settings → Settings → List (List ℕ × Bool)
of_listeners s t =
    (codes "listen_addr", names_differ s.listen_addr t.listen_addr)
    ∷ (codes "listen_port", numbers_differ s.listen_port t.listen_port)
    ∷ (codes "unix_socket_dir", texts_differ s.unix_socket_dir t.unix_socket_dir)
    ∷ (codes "unix_socket_mode", numbers_differ s.unix_socket_mode t.unix_socket_mode)
    ∷ (codes "unix_socket_group", texts_differ s.unix_socket_group t.unix_socket_group)
    ∷ (codes "peer_id", numbers_differ s.peer_id t.peer_id)
    ∷ (codes "metrics_addr", names_differ s.metrics_addr t.metrics_addr)
    ∷ (codes "metrics_port", numbers_differ s.metrics_port t.metrics_port) ∷ []

-- those of which connections to servers have what the files say now
abbrev pub of_clients : Settings → Settings → List (List ℕ × Bool)
of_clients s t =
    (codes "tcp_keepalive of clients' connections", switches_differ s.tcp_keepalive t.tcp_keepalive)
    ∷ (codes "tcp_keepidle of clients' connections", numbers_differ s.tcp_keepidle t.tcp_keepidle)
    ∷ (codes "tcp_keepintvl of clients' connections", numbers_differ s.tcp_keepintvl t.tcp_keepintvl)
    ∷ (codes "tcp_keepcnt of clients' connections", numbers_differ s.tcp_keepcnt t.tcp_keepcnt)
    ∷ (codes "tcp_user_timeout of clients' connections", numbers_differ s.tcp_user_timeout t.tcp_user_timeout) ∷ []

-- the same of what the code holds
abbrev pub setting_view : Bor (List ℕ) × Bool → List ℕ × Bool
setting_view c = (c.0.now, c.1)

-- ---- how connections are kept alive

abbrev pub keepalive_of : Settings → Option Keepalive
keepalive_of s =
    if s.tcp_keepalive then Some (record { idle = s.tcp_keepidle; interval = s.tcp_keepintvl; count = s.tcp_keepcnt; user_timeout = s.tcp_user_timeout }) else None
