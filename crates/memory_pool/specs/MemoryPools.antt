-- What the clients of a play are served over, and whose links they are.
use Rattle.std.specs.Prelude.{◌≡◌, ℕ, ◌<◌, false, true, List, Some}
use Rattle.std.specs.List.{AllByRecursion}
use Rattle.frame_view.specs.Frames.{FrameOf, spelling}
use Rattle.ini_config.specs.Bounds.{AreWithinBounds}
use Rattle.ini_config.specs.declared.option_values.Settings.{Settings}
use Rattle.user_file.specs.Users.{UsersOf}
use Rattle.session_values.specs.State.{CatalogueOf, StartKeyOf, fresh}
use Rattle.link_model.specs.Dialogues.{auth_of, start_error}
use Rattle.link_model.specs.Stages.{no_auth}
use Rattle.link_model.specs.Standing.{Standing}
use Rattle.link_run.specs.Links.{LinkView}
use Rattle.link_start.specs.Starts.{CanStartAll}
use Rattle.link_start.specs.declared.start.StartCause.{StartCause}
use Rattle.link_start.specs.declared.start.StartCause.TheVariants as cause
use Rattle.link_start.specs.declared.start.StartRefusal.{StartRefusal}
use Rattle.link_start.specs.declared.start.StartRefusal.TheVariants as told
use Rattle.link_start.specs.Refusing.{refusal_of}
use Rattle.lease_book.specs.declared.events.BookEvent.{BookEvent}
use Rattle.lease_book.specs.declared.events.BookEvent.TheVariants as event
use Rattle.memory_pool.specs.declared.answers.Taken.{Taken}
use Rattle.memory_pool.specs.declared.answers.Taken.TheVariants as taken

pub record MemoryPoolOf : Type 0 where
  pub settings : Settings
  pub users : UsersOf
  pub catalogue : CatalogueOf

abbrev pub memory_pool_of : Settings → UsersOf → CatalogueOf → MemoryPoolOf
memory_pool_of settings users catalogue = record { settings = settings; users = users; catalogue = catalogue }

-- ---- its links

-- behind the link is a stand-in server of this catalogue, which no cancel reaches
pub record IsServerOf (cat : CatalogueOf) (at : Standing) : Type 0 where
  pub follows : at.follows ≡ true
  pub catalogue : at.server.catalogue ≡ cat
  pub spared : at.server.strikable ≡ false

abbrev pub IsAtHome : CatalogueOf → LinkView → Type 0
IsAtHome cat l = IsServerOf cat l.stands

abbrev pub AreAtHome : CatalogueOf → List LinkView → Type 0
AreAtHome cat links = AllByRecursion (IsAtHome cat) links

-- a new server of this catalogue, which waits for a StartupMessage and asks for nothing
pub record IsNewServer (cat : CatalogueOf) (at : Standing) : Type 0 where
  pub home : IsServerOf cat at
  pub starts : CanStartAll at
  pub trusts : auth_of at.stage ≡ no_auth

-- the idle links of a pool
pub record IsMemoryPool (h : MemoryPoolOf) (cut : ℕ) (idle : List LinkView) : Type 0 where
  pub some : 0 < cut
  pub bounds : AreWithinBounds h.settings
  pub home : AreAtHome h.catalogue idle

-- a link that comes back
abbrev pub IsBroughtHome : {E : Type 0} → CatalogueOf → BookEvent E → Type 0
IsBroughtHome cat (event.GiveBack l) = IsAtHome cat l
IsBroughtHome cat (event.Plain e) = Unit {0}

-- ---- what a client that takes its link is answered

-- a server of this catalogue refuses a start with this key by this error
pub record IsStartError (cat : CatalogueOf) (key : StartKeyOf) (error : List ℕ) : Type 0 where
  pub frame : FrameOf
  pub refused : start_error (fresh cat key) ≡ Some frame
  pub whole : error ≡ spelling frame

abbrev pub IsUnstarted : CatalogueOf → StartKeyOf → StartCause → Type 0
IsUnstarted cat key (cause.Refused error) = IsStartError cat key error
IsUnstarted cat key _ = Unit {0}

abbrev pub IsTaken : CatalogueOf → StartKeyOf → Taken → Type 0
IsTaken cat key (taken.Link l) = IsAtHome cat l × (l.key ≡ key)
IsTaken cat key taken.Waits = Unit {0}
IsTaken cat key (taken.Refused refusal) = Unit {0}
IsTaken cat key (taken.Failed error) = IsStartError cat key error
IsTaken cat key taken.Strange = Unit {0}

-- the end of a link that wasn't started: what its client is told
abbrev pub IsToldTo : StartRefusal → Taken → Type 0
IsToldTo (told.Error error) (taken.Failed e) = e ≡ error
IsToldTo (told.Refusal refusal) (taken.Refused r) = r ≡ refusal
IsToldTo _ _ = ⊥

abbrev pub IsStartRefusal : StartCause → Taken → Type 0
IsStartRefusal c t = IsToldTo (refusal_of c) t
