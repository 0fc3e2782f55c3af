-- What the console answers to a command.
use Rattle.std.specs.Prelude.{List, [], ◌∷◌, ◌++◌, map, Option, Some, None, codes}
use Rattle.frame_view.specs.Frames.{FrameOf}
use Rattle.message_view.specs.declared.kinds.TheConstants.{IDLE}
use Rattle.message_view.specs.Messages.{command_complete, data_row, error_response, ready_for_query, row_description}
use Rattle.mini_sql.specs.Words.{Text}
use Rattle.session_values.specs.declared.cause.Cause.{Cause}
use Rattle.session_values.specs.declared.cause.Cause.TheVariants.{Syntax}
use Rattle.session_values.specs.Errors.{error}
use Rattle.ini_config.specs.declared.option_values.Settings.{Settings}
use Rattle.book_register.specs.Views.{View}
use Rattle.console_core.specs.declared.commands.Action.{Action}
use Rattle.console_core.specs.declared.commands.Table.{Table}
use Rattle.console_core.specs.declared.commands.Table.TheVariants.{Pools, Clients, Servers, Config, Version, Totals}
use Rattle.console_core.specs.Commands.{CommandOf, Act, Show, Await, awaiting, command_of, tag}
use Rattle.console_core.specs.Config.{config}
use Rattle.console_core.specs.Tables.{clients, pools, servers, totals, version}

pub data ReplyOf : Type 0 where
  -- these rows of this table
  Rows : Table → (rows : List (List Text)) → ReplyOf
  -- this is to be done
  Acts : Action → ReplyOf
  -- no link is stale any more
  Awaits : ReplyOf
  -- something was to be done by who may but look
  NotAllowed : ReplyOf
  -- the pooler shuts down before that is so
  ShutsDown : ReplyOf
  -- it is no command
  Unknown : ReplyOf

abbrev pub rows_of : View → Settings → Table → List (List Text)
rows_of v s Pools = pools v
rows_of v s Clients = clients v
rows_of v s Servers = servers v
rows_of v s Config = config s
rows_of v s Version = version
rows_of v s Totals = totals v

abbrev pub reply_to : View → Settings → Option CommandOf → ReplyOf
reply_to v s None = Unknown
reply_to v s (Some (Act a)) = Acts a
reply_to v s (Some (Await database)) = Awaits
reply_to v s (Some (Show t)) = Rows t (rows_of v s t)

abbrev pub answer : View → Settings → Text → ReplyOf
answer v s text = reply_to v s (command_of text)

-- ---- as messages

abbrev pub columns : Table → List Text
columns Pools = codes "database" ∷ codes "user" ∷ codes "cl_active" ∷ codes "cl_waiting" ∷ codes "sv_active" ∷ codes "sv_idle" ∷ []
columns Clients = codes "number" ∷ codes "state" ∷ []
columns Servers = codes "number" ∷ codes "database" ∷ codes "user" ∷ codes "state" ∷ []
columns Config = codes "key" ∷ codes "value" ∷ []
columns Version = codes "version" ∷ []
columns Totals = codes "decisions" ∷ codes "starts" ∷ codes "reuses" ∷ codes "evictions" ∷ codes "losses" ∷ []

-- columns of texts, which have format 0
abbrev pub heading : List Text → FrameOf
heading names = row_description names (map (λ name. 0) names)

abbrev pub row_frame : List Text → FrameOf
row_frame cells = data_row (map Some cells)

abbrev pub ready : FrameOf
ready = ready_for_query IDLE

abbrev pub done : Text → List FrameOf
done text = command_complete text ∷ ready ∷ []

abbrev pub listing : Table → List (List Text) → List FrameOf
listing t rows = heading (columns t) ∷ map row_frame rows ++ done (codes "SHOW")

abbrev pub refused : Cause → List FrameOf
refused cause = error cause ∷ ready ∷ []

abbrev pub not_allowed : List FrameOf
not_allowed = error_response (codes "ERROR") (codes "42501") (codes "admin access needed") ∷ ready ∷ []

abbrev pub shuts_down : List FrameOf
shuts_down = error_response (codes "ERROR") (codes "57P01") (codes "pooler is shutting down") ∷ ready ∷ []

-- of an action: once it is done
abbrev pub frames_of : ReplyOf → List FrameOf
frames_of (Rows t rows) = listing t rows
frames_of (Acts a) = done (tag a)
frames_of Awaits = done awaiting
frames_of NotAllowed = not_allowed
frames_of ShutsDown = shuts_down
frames_of Unknown = refused Syntax
