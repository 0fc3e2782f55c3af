-- A link and the server behind it, and when the traffic over it is settled.
use Rattle.std.specs.Prelude.{◌≡◌, ◌⊎◌, ℕ, Bool, true, false, ◌&&◌, List, [], ◌∷◌, Option, Some, None}
use Rattle.std.specs.List.{flat_map, AllByRecursion}
use Rattle.frame_view.specs.declared.Side.{Side}
use Rattle.frame_view.specs.declared.Side.TheVariants.{Client, Server}
use Rattle.frame_view.specs.declared.frames.TheConstants.{MAX_FRAME}
use Rattle.frame_view.specs.Frames.{FrameOf, IsFrame, spelling}
use Rattle.message_view.specs.declared.views.KeyView.{KeyView}
use Rattle.session_values.specs.State.{State, StartKeyOf}
use Rattle.session_values.specs.Step.{may_be_struck}
use Rattle.session_laws.specs.Laws.{discard_all}
use Rattle.session_run_laws.specs.Settling.{IsAnswered}

-- what a link is there for
pub data Role : Type 0 where
  Unborn : Role
  -- it is to be started for this client
  Promised : (client : ℕ) → Role
  Lent : (client : ℕ) → Role
  InReset : Role
  -- in its worker's hand, to be given back
  Clean : Role
  Idle : Role
  Gone : Role

pub record Link : Type 0 where
  pub role : Role
  pub key : StartKeyOf
  -- its server: the key word that it told at its start, the session, the bytes that it has still to take, and those that it has still to give
  pub server_key : Option KeyView
  pub alive : Bool
  pub session : State
  pub inbox : List ℕ
  pub outbox : List ℕ
  -- a cancel came to it that no statement took yet: the key word of the client for which it was asked
  pub due : Option KeyView
  -- the bytes sent and received since it was last clean
  pub sent : List ℕ
  pub received : List ℕ
  -- for each frame that its server took since then, whether a cancel struck it
  pub struck : List Bool

-- the link of a server that has just opened this session for a client, and told this key word
abbrev pub newborn : ℕ → StartKeyOf → KeyView → State → Link
newborn c key own s = record { role = Lent c; key = key; server_key = Some own; alive = true; session = s; inbox = []; outbox = []; due = None; sent = []; received = []; struck = [] }

abbrev pub is_some : {A : Type 0} → Option A → Bool
is_some None = false
is_some (Some x) = true

-- the cancel that came strikes this frame
abbrev pub is_due : Link → FrameOf → Bool
is_due y f = is_some y.due && may_be_struck y.session f

-- a frame that is struck takes the cancel with it
abbrev pub left_due : (struck : Bool) → Option KeyView → Option KeyView
left_due true due = None
left_due false due = due

-- the bytes are these frames, and no part of one more
pub record AreTheFrames (side : Side) (bytes : List ℕ) (frames : List FrameOf) : Type 0 where
  pub each : AllByRecursion (IsFrame side MAX_FRAME) frames
  pub bytes_are : bytes ≡ flat_map spelling frames

-- whole frames went both ways: nothing was sent, or all was answered, and the last answer tells of no block
pub record IsSettled (sent received : List ℕ) : Type 0 where
  pub went : List FrameOf
  pub came : List FrameOf
  pub sent_are : AreTheFrames Client sent went
  pub received_are : AreTheFrames Server received came
  pub answered : (went ≡ []) ⊎ IsAnswered went came

-- DISCARD ALL was sent, and was answered by whole frames
pub record IsReset (sent received : List ℕ) : Type 0 where
  pub sent_is : sent ≡ spelling discard_all
  pub came : List FrameOf
  pub received_are : AreTheFrames Server received came
  pub answered : IsAnswered (discard_all ∷ []) came
