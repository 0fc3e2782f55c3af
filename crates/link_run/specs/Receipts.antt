-- What the types of links say. For an end of any kind, one that follows no server too: all that went over it since it was begun was
-- a start with the link's key, and then leases, each of which was settled and then reset; and what the link keeps are the server's key
-- and the reports of that start, these with the values that those dialogues told since.
use Rattle.std.specs.Prelude.{◌≡◌, ◌⊎◌, ℕ, true, List, [], Option, Some}
use Rattle.std.specs.List.{flat_map}
use Rattle.frame_view.specs.Frames.{FrameOf, spelling}
use Rattle.message_view.specs.declared.views.KeyView.{KeyView}
use Rattle.session_values.specs.State.{StartKeyOf}
use Rattle.session_run_laws.specs.Settling.{IsAnswered}
use Rattle.param_track.specs.KeptReports.{KeptReport}
use Rattle.server_end.specs.Standing.{Standing, Moves}
use Rattle.link_model.specs.Dialogues.{IsNew, start_packets}
use Rattle.link_model.specs.Stages.{packets_bytes}
use Rattle.link_run.specs.Links.{IsFreshLink, IsRestingLink, after_frames}
use Rattle.link_run.specs.Dialogues.{IsResetDialogue, IsStartAnswer, TellsKey, reported_all}

-- Its StartupMessage was sent, of this key, and the answers to questions where there were any; what came is the whole answer to a
-- start, no byte more or less; and this is the server's key, and these are the reports, that the answer told. Where the end follows, its
-- server was new then.
pub record HasStarted (key : StartKeyOf) (at : Standing) (server_key : Option KeyView) (reports : List KeptReport) : Type 0 where
  pub began : Standing
  pub is_new : began.follows ≡ true → IsNew began
  pub given : List (List ℕ)
  pub replies : List FrameOf
  pub moves : Moves began (packets_bytes (start_packets key given)) at (flat_map spelling replies)
  pub answers : IsStartAnswer replies
  pub keyed : TellsKey replies server_key
  pub reported : reported_all [] replies ≡ Some reports

-- A lease went over it since it stood there and kept these reports: whole frames each way, and none was sent, or all are answered; and
-- of each report it keeps the value that those frames told last.
pub record HasSettled (clean : Standing) (kept : List KeptReport) (at : Standing) (reports : List KeptReport) : Type 0 where
  pub sent : List FrameOf
  pub received : List FrameOf
  pub moves : Moves clean (flat_map spelling sent) at (flat_map spelling received)
  pub answered : (sent ≡ []) ⊎ IsAnswered sent received
  pub told : reports ≡ after_frames kept received

-- by its start, or by the reset of a clean link that was leased
pub data CameClean (key : StartKeyOf) (server_key : Option KeyView) : Standing → List KeptReport → Type 0 where
  by_start : {at : Standing} {reports : List KeptReport} → HasStarted key at server_key reports → CameClean key server_key at reports
  by_reset : {clean used at : Standing} {kept left reports : List KeptReport} → CameClean key server_key clean kept → HasSettled clean kept used left → IsResetDialogue used left at reports → CameClean key server_key at reports

-- a clean link was leased
pub record CameUsed (key : StartKeyOf) (server_key : Option KeyView) (at : Standing) (reports : List KeptReport) : Type 0 where
  pub clean : Standing
  pub kept : List KeptReport
  pub came : CameClean key server_key clean kept
  pub lease : HasSettled clean kept at reports

-- ---- by the kinds of link

-- where its end follows, it is fresh, too
pub record IsClean (at : Standing) (key : StartKeyOf) (server_key : Option KeyView) (reports : List KeptReport) : Type 0 where
  pub came : CameClean key server_key at reports
  pub fresh : at.follows ≡ true → IsFreshLink at key reports

-- where its end follows and lives, it is at rest, too
pub record IsUsed (at : Standing) (key : StartKeyOf) (server_key : Option KeyView) (reports : List KeptReport) : Type 0 where
  pub came : CameUsed key server_key at reports
  pub rests : at.follows ≡ true → at.lives ≡ true → IsRestingLink at key reports

-- What nothing was sent over and nothing came from is as clean as it was.
abbrev pub UntouchedIsClean : Type 0
UntouchedIsClean = (key : StartKeyOf) (server_key : Option KeyView) (clean at : Standing) (reports : List KeptReport) → CameClean key server_key clean reports → Moves clean [] at [] → CameClean key server_key at reports
