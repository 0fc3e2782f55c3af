-- A lease: what its ends were given since it began, and what is held for them.
use Rattle.std.specs.Prelude.{◌≡◌, ℕ, true, List, [], ◌++◌}
use Rattle.std.specs.List.{flat_map, AllByRecursion}
use Rattle.frame_view.specs.declared.Side.TheVariants.{Client, Server}
use Rattle.frame_view.specs.declared.frames.TheConstants.{MAX_FRAME}
use Rattle.frame_view.specs.Frames.{FrameOf, IsFrame, Stops, front, spelling}
use Rattle.message_view.specs.declared.KeyWord.{KeyWord}
use Rattle.session_run_laws.specs.State.{StartKeyOf}
use Rattle.session_run_laws.specs.Service.{service, welcome}
use Rattle.session_run_laws.specs.Laws.{IsSent}
use Rattle.session_run_laws.specs.Settling.{IsAnswered}
use Rattle.link_model.specs.Standing.{Standing, Moves, marks_since}
use Rattle.link_model.specs.Links.{IsFresh, IsResting}
use Rattle.link_model.specs.Futures.{future}

pub record Lease : Type 0 where
  pub key : StartKeyOf
  pub word : KeyWord
  -- the link where the lease began, and now
  pub began : Standing
  pub link : Standing
  -- the bytes that the link accepted and gave since
  pub sent : List ℕ
  pub received : List ℕ
  -- the client's frames that went on, and the beginning of one more
  pub forwarded : List FrameOf
  pub tail : List ℕ
  -- bytes that went on and are held, for the link and for the client
  pub for_link : List ℕ
  pub for_client : List ℕ
  -- the bytes that the client was given since
  pub given : List ℕ

-- what each move of a lease keeps, where its link's end follows
pub record IsUnderWay (l : Lease) : Type 0 where
  pub clean : IsFresh l.began l.key
  pub moves : Moves l.began l.sent l.link l.received
  pub sent : AllByRecursion IsSent l.forwarded
  -- no whole frame stands at the front of what went on in part
  pub in_part : Stops (front Client MAX_FRAME l.tail)
  pub on_way : l.sent ++ l.for_link ≡ flat_map spelling l.forwarded ++ l.tail
  pub out : l.given ++ l.for_client ≡ flat_map spelling (welcome clean.session l.word.pid l.word.secret) ++ l.received

-- what a server started for this client alone answers to its bytes, where cancels strike those frames that they struck since the
-- lease began
abbrev pub own : Lease → List ℕ
own l = service l.began.server.catalogue l.key l.word.pid l.word.secret (marks_since l.began l.link) (flat_map spelling l.forwarded ++ l.tail)

-- The equation of a lease: the bytes given, those held, and the link's future with what is held for it, are
-- what a server of the client's own answers.
abbrev pub IsExact : Lease → Type 0
IsExact l = (l.given ++ l.for_client) ++ future l.link l.for_link ≡ own l

-- what was given and is held is a beginning of it
pub record IsFront (l : Lease) : Type 0 where
  pub more : List ℕ
  pub both : (l.given ++ l.for_client) ++ more ≡ own l

abbrev pub LeasesAreExact : Type 0
LeasesAreExact = (l : Lease) → IsUnderWay l → l.began.follows ≡ true → l.link.lives ≡ true → IsExact l

-- dead or alive
abbrev pub LeasesAreFronts : Type 0
LeasesAreFronts = (l : Lease) → IsUnderWay l → l.began.follows ≡ true → IsFront l

-- A lease whose frames were all answered, the last one idle, with nothing held or in part, leaves a link at rest.
abbrev pub SettledLinksRest : Type 0
SettledLinksRest = (l : Lease) (arrived : List FrameOf) → IsUnderWay l → l.began.follows ≡ true → l.link.lives ≡ true → l.for_link ≡ [] → l.tail ≡ []
    → AllByRecursion (IsFrame Server MAX_FRAME) arrived → l.received ≡ flat_map spelling arrived → IsAnswered l.forwarded arrived → IsResting l.link l.key
