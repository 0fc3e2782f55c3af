-- The laws of starts and resets: what a fresh session depends on, what its welcome, its refusal and a reset are read as.
use Rattle.std.specs.Prelude.{◌≡◌, ℕ, ◌≤◌, length, Ok}
use Rattle.std.specs.List.{AllByRecursion}
use Rattle.frame_view.specs.Frames.{FrameOf, IsFrame}
use Rattle.frame_view.specs.declared.frames.TheConstants.{MAX_FRAME}
use Rattle.frame_view.specs.declared.Side.TheVariants.{Client, Server}
use Rattle.message_view.specs.Reading.{status_of}
use Rattle.session_values.specs.declared.cause.Cause.{Cause}
use Rattle.session_values.specs.Parameters.{name}
use Rattle.session_values.specs.Errors.{fatal}
use Rattle.session_values.specs.Lawful.{IsLawfulCatalogue, IsLawfulKey}
use Rattle.session_values.specs.State.{State, CatalogueOf, StartKeyOf, fresh, all_reports}
use Rattle.session_values.specs.Service.{welcome}
use Rattle.session_laws.specs.Laws.{HasKey, IsAtRest, Reaches, IsReport, after_replies, discard_all, discard_replies}

-- ---- what a session begins with

-- A fresh session of a lawful key is reached.
abbrev pub FreshIsReached : Type 0
FreshIsReached = (cat : CatalogueOf) (key : StartKeyOf) (s : State) → IsLawfulCatalogue cat → IsLawfulKey key → fresh cat key ≡ Ok s → Reaches cat key s

-- What a session reaches has its key.
abbrev pub ReachedHasKey : Type 0
ReachedHasKey = (cat : CatalogueOf) (key : StartKeyOf) (s : State) → Reaches cat key s → HasKey cat key s

-- A fresh session depends on the database and the parameters alone, as a link's key and the key of
-- its server's own session share them.
abbrev pub FreshByNames : Type 0
FreshByNames = (cat : CatalogueOf) (key other : StartKeyOf) → key.dbname ≡ other.dbname → key.parameters ≡ other.parameters → fresh cat key ≡ fresh cat other

-- ---- the frames of a start

-- the welcome of a session, the error of a start that is refused, and DISCARD ALL are whole frames
abbrev pub WelcomeIsFrames : Type 0
WelcomeIsFrames = (cat : CatalogueOf) (key : StartKeyOf) (s : State) (pid secret : ℕ) → Reaches cat key s → AllByRecursion (IsFrame Server MAX_FRAME) (welcome s pid secret)

abbrev pub StartErrorIsFrame : Type 0
StartErrorIsFrame = (c : Cause) → IsFrame Server MAX_FRAME (fatal c)

abbrev pub DiscardAllIsFrame : Type 0
DiscardAllIsFrame = IsFrame Client MAX_FRAME discard_all

-- ---- starts and resets are short, and can be read

-- the greatest length of a frame of a welcome, of a refused start's error, or of a reset: 64 KiB
abbrev pub longest_start_frame : ℕ
longest_start_frame = 65536

-- A report can be read, and has at most 4,096 bytes.
abbrev pub ReportsAreRead : Type 0
ReportsAreRead = (f : FrameOf) (r : IsReport f) → (status_of f.body ≡ Ok (name r.parameter, r.value)) × (length f.body ≤ 4096)

-- one report for each reported parameter, in order, and short frames
pub record Welcomes (s : State) (pid secret : ℕ) : Type 0 where
  pub nine : length s.reported ≡ 9
  pub are_reports : AllByRecursion IsReport (all_reports s)
  pub short : AllByRecursion (IsFrame Server longest_start_frame) (welcome s pid secret)

abbrev pub WelcomeIsRead : Type 0
WelcomeIsRead = (cat : CatalogueOf) (key : StartKeyOf) (s : State) (pid secret : ℕ) → Reaches cat key s → Welcomes s pid secret

abbrev pub StartErrorIsShort : Type 0
StartErrorIsShort = (c : Cause) → IsFrame Server longest_start_frame (fatal c)

-- what DISCARD ALL is answered by: short frames, which give back the reported values of the start
pub record Resets (s origin : State) : Type 0 where
  pub short : AllByRecursion (IsFrame Server longest_start_frame) (discard_replies origin s)
  pub told : after_replies s.reported (discard_replies origin s) ≡ origin.reported

abbrev pub ResetsAreRead : Type 0
ResetsAreRead = (cat : CatalogueOf) (key : StartKeyOf) (s origin : State) → Reaches cat key s → fresh cat key ≡ Ok origin → IsAtRest s → Resets s origin
