-- A link as contracts see it, and what it keeps of its server's reports.
use Rattle.std.specs.Prelude.{◌≡◌, ℕ, Option, List, [], ◌∷◌, ◌++◌, map, Result, Ok, Err, ◌==◌, if◌then◌else◌}
use Rattle.frame_view.specs.declared.server.TheConstants.{PARAMETER_STATUS}
use Rattle.frame_view.specs.Frames.{FrameOf}
use Rattle.message_view.specs.declared.ViewError.{ViewError}
use Rattle.message_view.specs.declared.views.KeyView.{KeyView}
use Rattle.message_view.specs.declared.kinds.TheConstants.{IDLE}
use Rattle.message_view.specs.Messages.{backend_key_data, parameter_status, ready_for_query}
use Rattle.message_view.specs.Reading.{status_of}
use Rattle.start_keys.specs.StartPairs.{Text}
use Rattle.session_values.specs.declared.parameter.Parameter.{Parameter}
use Rattle.session_values.specs.Parameters.{reported_parameters, name}
use Rattle.session_values.specs.State.{State, StartKeyOf, fresh}
use Rattle.session_values.specs.Service.{welcome}
use Rattle.param_track.specs.Reports.{Report}
use Rattle.param_track.specs.KeptReports.{KeptReport, kept_of, with_told}
use Rattle.server_end.specs.Standing.{Standing}
use Rattle.server_end.specs.Links.{IsFresh, IsResting}

pub record LinkView : Type 0 where
  pub stands : Standing
  pub key : StartKeyOf
  pub number : ℕ
  pub started_at : ℕ
  -- the words of its server's BackendKeyData, if it sent one
  pub server_key : Option KeyView
  -- what its start reported, and of which parameters another value was told since
  pub reports : List KeptReport

-- ---- the reports of a session

abbrev pub reports_with : List Parameter → List Text → List Report
reports_with (p ∷ ps) (v ∷ vs) = (name p, v) ∷ reports_with ps vs
reports_with _ _ = []

-- what the welcome of a session with these reported values tells
abbrev pub reports_of : List Text → List Report
reports_of values = reports_with reported_parameters values

-- What is kept of a session that began with these reported values and has those now.
abbrev pub kept_by : List Text → List Text → List KeptReport
kept_by start now = kept_of (reports_of start) now

-- What a client is given first over a link that keeps these reports: the start's, BackendKeyData of this pid and secret, and
-- ReadyForQuery.
abbrev pub start_report : KeptReport → FrameOf
start_report k = parameter_status k.name k.value

abbrev pub welcome_by : List KeptReport → ℕ → ℕ → List FrameOf
welcome_by kept pid secret = map start_report kept ++ backend_key_data pid secret ∷ ready_for_query IDLE ∷ []

-- It is the welcome of the session that the link began with.
abbrev pub WelcomesAreTheSessions : Type 0
WelcomesAreTheSessions = (s : State) (pid secret : ℕ) → welcome_by (kept_by s.reported s.reported) pid secret ≡ welcome s pid secret

-- what is kept, once a server's frame has come: a ParameterStatus tells the value of the parameter that it names
abbrev pub told_by : List KeptReport → Result (Text × Text) ViewError → List KeptReport
told_by kept (Ok report) = with_told kept report
told_by kept (Err fault) = kept

abbrev pub after_frame : List KeptReport → FrameOf → List KeptReport
after_frame kept f = if f.kind == PARAMETER_STATUS then told_by kept (status_of f.body) else kept

abbrev pub after_frames : List KeptReport → List FrameOf → List KeptReport
after_frames kept [] = kept
after_frames kept (f ∷ fs) = after_frames (after_frame kept f) fs

-- ---- what the kinds of link stand in, where their end follows

-- clean: the server opened the fresh session of its key and stands in it while it lives, and the link keeps its reports
pub record IsFreshLink (at : Standing) (key : StartKeyOf) (reports : List KeptReport) : Type 0 where
  pub stands : IsFresh at key
  pub kept : reports ≡ kept_by stands.session.reported stands.session.reported

-- used: it stands at rest, and the link keeps what the session that it began with reported, and has told the values of now
pub record IsRestingLink (at : Standing) (key : StartKeyOf) (reports : List KeptReport) : Type 0 where
  pub stands : IsResting at key
  pub origin : State
  pub is_fresh : fresh at.server.catalogue key ≡ Ok origin
  pub kept : reports ≡ kept_by origin.reported stands.session.reported
