-- What a client of the console is given behind AuthenticationOk, and what each of its messages is answered by.
use Rattle.std.specs.Prelude.{ℕ, Bool, true, false, List, [], ◌∷◌, ◌++◌, Result, Ok, Err, codes, if◌then◌else◌, ◌==◌}
use Rattle.frame_view.specs.Frames.{FrameOf}
use Rattle.frame_view.specs.declared.client.TheConstants.{FLUSH, QUERY, SYNC, TERMINATE}
use Rattle.message_view.specs.Messages.{backend_key_data, parameter_status}
use Rattle.message_view.specs.Reading.{query_of}
use Rattle.message_view.specs.declared.ViewError.{ViewError}
use Rattle.mini_sql.specs.Words.{Text}
use Rattle.session_values.specs.declared.cause.Cause.TheVariants.{MalformedMessage, NotSupported}
use Rattle.session_values.specs.Errors.{error}
use Rattle.console_core.specs.Replies.{ready, refused}

abbrev pub reports : List FrameOf
reports =
    parameter_status (codes "client_encoding") (codes "UTF8") ∷ parameter_status (codes "server_encoding") (codes "UTF8")
    ∷ parameter_status (codes "server_version") (codes "16.0") ∷ []

abbrev pub welcome : ℕ → ℕ → List FrameOf
welcome pid secret = reports ++ backend_key_data pid secret ∷ ready ∷ []

-- what a message is answered by
pub data Response : Type 0 where
  -- these frames; and whether the messages up to the next Sync are dropped
  Frames : List FrameOf → (drops : Bool) → Response
  -- the answer to this command
  Answer : Text → Response
  -- nothing: the client leaves
  Leave : Response

abbrev pub query_response : Result Text ViewError → Response
query_response (Ok command) = Answer command
query_response (Err fault) = Frames (refused MalformedMessage) false

-- a message, where messages are dropped or not
abbrev pub response_to : Bool → FrameOf → Response
response_to drops f =
    if f.kind == TERMINATE then Leave else (
    if f.kind == SYNC then Frames (ready ∷ []) false else (
    if drops then Frames [] true else (
    if f.kind == FLUSH then Frames [] false else (
    if f.kind == QUERY then query_response (query_of f.body) else Frames (error NotSupported ∷ []) true))))
