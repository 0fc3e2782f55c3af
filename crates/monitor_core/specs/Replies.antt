-- What the console answers to a monitor.
use Rattle.std.specs.Prelude.{ℕ, List, [], ◌∷◌, ◌++◌, map, Option, Some, None, codes}
use Rattle.frame_view.specs.Frames.{FrameOf}
use Rattle.message_view.specs.Messages.{backend_key_data, error_response, notice_response, parameter_status}
use Rattle.mini_sql.specs.Words.{Text}
use Rattle.ini_config.specs.declared.option_values.Settings.{Settings}
use Rattle.book_register.specs.Views.{View}
use Rattle.console_core.specs.Messages as console
use Rattle.console_core.specs.Replies.{done, ready, row_frame}
use Rattle.ini_config.specs.declared.option_values.ConsoleStyle.{ConsoleStyle as Style}
use Rattle.ini_config.specs.declared.option_values.ConsoleStyle.TheVariants.{Own, PgBouncer}
use Rattle.monitor_core.specs.declared.asking.Table.{Table}
use Rattle.monitor_core.specs.declared.asking.Table.TheVariants as table
use Rattle.monitor_core.specs.declared.asking.Asked.{Asked}
use Rattle.monitor_core.specs.declared.asking.Asked.TheVariants as asked
use Rattle.monitor_core.specs.Asking as asking
use Rattle.monitor_core.specs.Columns.{groups, heading}
use Rattle.pool_figures.specs.Seen.{SeenOf}
use Rattle.monitor_core.specs.Tables.{activity, averages, config, databases, lists, pools, state, stats, sums, totals, version}
use Rattle.monitor_core.specs.Known.{decisions, users}
use Rattle.monitor_core.specs.Servers.{clients, servers}

pub data ReplyOf : Type 0 where
  -- these rows of this table
  Rows : Table → (rows : List (List Text)) → ReplyOf
  -- that a parameter is set
  Set : ReplyOf
  -- what may be asked for
  Help : ReplyOf
  -- that it is no command
  Unknown : ReplyOf

abbrev pub rows_of : View → SeenOf → Settings → Table → List (List Text)
rows_of v x s table.Stats = stats x
rows_of v x s table.StatsTotals = totals x
rows_of v x s table.StatsAverages = averages x
rows_of v x s table.Lists = lists v v.limits.rows x
rows_of v x s table.Databases = databases v v.limits.rows
rows_of v x s table.State = state v
rows_of v x s table.Activity = activity x
rows_of v x s table.Pools = pools v x
rows_of v x s table.Clients = clients v x
rows_of v x s table.Servers = servers v x
rows_of v x s table.Config = config s
rows_of v x s table.Version = version
rows_of v x s table.Totals = sums x
rows_of v x s table.Users = users x
rows_of v x s table.Decisions = decisions x

abbrev pub reply_to : View → SeenOf → Settings → Asked → ReplyOf
reply_to v x s (asked.Show t) = Rows t (rows_of v x s t)
reply_to v x s asked.Set = Set
reply_to v x s asked.Help = Help
reply_to v x s asked.Unknown = Unknown

-- ---- as messages

-- what may be asked for, as a notice
unfoldable pub help : FrameOf
help = notice_response (codes "NOTICE") (codes "00000") (codes "SHOW HELP|ACTIVITY|CLIENTS|CONFIG|DATABASES|DECISIONS|LISTS|POOLS|SERVERS|STATE|STATS|STATS_AVERAGES|STATS_TOTALS|TOTALS|USERS|VERSION, SET name = value, PAUSE, RESUME, RELOAD, RECONNECT, WAIT_CLOSE [database], SHUTDOWN")

unfoldable pub unknown : FrameOf
unknown = error_response (codes "ERROR") (codes "42601") (codes "invalid command, use SHOW HELP;")

abbrev pub listing : Table → List (List Text) → List FrameOf
listing t rows = heading (groups t) ∷ map row_frame rows ++ done (codes "SHOW")

abbrev pub frames_of : ReplyOf → List FrameOf
frames_of (Rows t rows) = listing t rows
frames_of Set = done (codes "SET")
frames_of Help = help ∷ done (codes "SHOW")
frames_of Unknown = unknown ∷ ready ∷ []

-- what PgBouncer's console reports of itself
unfoldable pub reports : List FrameOf
reports =
    parameter_status (codes "server_version") (codes "1.24.0/bouncer") ∷ parameter_status (codes "client_encoding") (codes "UTF8")
    ∷ parameter_status (codes "server_encoding") (codes "UTF8") ∷ parameter_status (codes "DateStyle") (codes "ISO")
    ∷ parameter_status (codes "TimeZone") (codes "GMT") ∷ parameter_status (codes "standard_conforming_strings") (codes "on")
    ∷ parameter_status (codes "is_superuser") (codes "on") ∷ []

abbrev pub welcome_of : Style → ℕ → ℕ → List FrameOf
welcome_of Own pid secret = console.welcome pid secret
welcome_of PgBouncer pid secret = reports ++ backend_key_data pid secret ∷ ready ∷ []
