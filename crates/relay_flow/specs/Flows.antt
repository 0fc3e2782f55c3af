-- Bytes on their way: those that may go on, then those that may not go on yet.
use Rattle.std.specs.Prelude.{◌≡◌, ◌⊎◌, ℕ, ◌-◌, ◌<◌, ◌≢◌, Bool, true, false, ◌==◌, List, [], ◌++◌, take, drop, length, Option}
use Rattle.frame_view.specs.declared.Side.{Side}
use Rattle.frame_view.specs.declared.Side.TheVariants.{Client, Server}
use Rattle.frame_view.specs.Frames as frames
use Rattle.frame_view.specs.Frames.{AreBytes, front}
use Rattle.frame_view.specs.declared.client.TheConstants.{TERMINATE}
use Rattle.frame_view.specs.declared.server.TheConstants.{PARAMETER_STATUS}
use Rattle.server_end.specs.declared.Moved.{Moved}
use Rattle.server_end.specs.declared.Moved.TheVariants.{Count, NotNow, Ended, Fault}
use Rattle.relay_flow.specs.Parts.{Begins, Opens, Spells, Advances, is_stuck}
use Rattle.relay_flow.specs.declared.parts.TheConstants.{HEAD}
use Rattle.relay_flow.specs.declared.flow.Ends.{Ends}
use Rattle.relay_flow.specs.declared.flow.Ends.TheVariants.{Open, Last, Faulty}
use Rattle.relay_flow.specs.declared.flow.Passed.{Passed}
use Rattle.relay_flow.specs.declared.flow.Ahead.{Ahead}
use Rattle.relay_flow.specs.declared.flow.Ahead.TheVariants as ahead

pub record FlowView : Type 0 where
  pub held : List ℕ
  pub part : List ℕ
  -- free bytes behind the part
  pub room : ℕ
  -- of a frame that went on in part, its type and how many of its bytes are still to come
  pub kind : ℕ
  pub rest : ℕ
  pub side : Side
  pub limit : ℕ
  pub ends : Ends

pub record SameCursor (v w : FlowView) : Type 0 where
  pub kind : w.kind ≡ v.kind
  pub rest : w.rest ≡ v.rest
  pub side : w.side ≡ v.side
  pub limit : w.limit ≡ v.limit
  pub ends : w.ends ≡ v.ends

pub record IsEmptyFlow (side : Side) (limit : ℕ) (v : FlowView) : Type 0 where
  pub held : v.held ≡ []
  pub part : v.part ≡ []
  pub rest : v.rest ≡ 0
  pub side_is : v.side ≡ side
  pub limit_is : v.limit ≡ limit
  pub ends : v.ends ≡ Open

abbrev pub is_empty : List ℕ → Bool
is_empty bytes = length bytes == 0

abbrev pub is_open : Ends → Bool
is_open Open = true
is_open Last = false
is_open (Faulty fault) = false

abbrev pub is_last_end : Ends → Bool
is_last_end Open = false
is_last_end Last = true
is_last_end (Faulty fault) = false

abbrev pub is_faulty : Ends → Bool
is_faulty Open = false
is_faulty Last = false
is_faulty (Faulty fault) = true

-- a frame of this type ends what goes on from this side
abbrev pub is_last : Side → ℕ → Bool
is_last Client kind = kind == TERMINATE
is_last Server kind = false

abbrev pub count_of : Moved → ℕ
count_of (Count n) = n
count_of NotNow = 0
count_of Ended = 0
count_of Fault = 0

-- a count is not zero
abbrev pub IsPositive : Moved → Type 0
IsPositive (Count n) = 0 < n
IsPositive NotNow = Unit {0}
IsPositive Ended = Unit {0}
IsPositive Fault = Unit {0}

-- what the part grew by
abbrev pub came : FlowView → FlowView → List ℕ
came v w = drop (length v.part) w.part

-- after a read
pub record Fills (v w : FlowView) (m : Moved) : Type 0 where
  pub held : w.held ≡ v.held
  pub part : w.part ≡ v.part ++ came v w
  pub count : length (came v w) ≡ count_of m
  pub cursor : SameCursor v w

-- The head of a lawful Terminate stands at the front, whole or with its body in part.
pub record AtTerminate (side : Side) (limit : ℕ) (part : List ℕ) : Type 0 where
  pub count : ℕ
  pub missing : ℕ
  pub status : Option ℕ
  pub foreign : Bool
  pub kind : ℕ
  pub is_terminate : is_last side kind ≡ true
  pub begins : Begins side limit (take count part) kind missing ⊎ Spells side limit (take count part) kind status foreign

-- nothing of the part may go on: at a border no lawful head, or a frame that goes on whole and isn't yet
pub record NoneGoes (v : FlowView) : Type 0 where
  pub border : v.rest ≡ 0 → is_stuck v.side (front v.side v.limit v.part) v.part ≡ true
  pub inside : 0 < v.rest → v.part ≡ []

-- what stands at the front where no more may come
abbrev pub IsEndedBy : Ends → Side → ℕ → List ℕ → ℕ → Type 0
IsEndedBy Open side limit part rest = Unit {0}
IsEndedBy Last side limit part rest = (rest ≡ 0) × AtTerminate side limit part
IsEndedBy (Faulty fault) side limit part rest = (rest ≡ 0) × (front side limit part ≡ frames.Faulty fault)

abbrev pub IsEnded : FlowView → Type 0
IsEnded v = IsEndedBy v.ends v.side v.limit v.part v.rest

-- what stands next
abbrev pub IsAhead : FlowView → Ahead → Type 0
IsAhead v (ahead.Goes a) = Advances v.side v.limit v.part v.kind v.rest a × (v.side ≡ Client → a.kind ≢ TERMINATE)
IsAhead v ahead.Waits = NoneGoes v
IsAhead v ahead.Last = (v.rest ≡ 0) × AtTerminate v.side v.limit v.part
IsAhead v (ahead.Faulty fault) = (v.rest ≡ 0) × (front v.side v.limit v.part ≡ frames.Faulty fault)

-- some bytes of the part may go on
pub record Passes (v w : FlowView) (p : Passed) : Type 0 where
  pub bytes : List ℕ
  pub are_bytes : AreBytes bytes
  pub some : 0 < length bytes
  pub count : p.count ≡ length bytes
  pub held : w.held ≡ v.held ++ bytes
  pub part : v.part ≡ bytes ++ w.part
  pub side : w.side ≡ v.side
  pub limit : w.limit ≡ v.limit
  pub ends : w.ends ≡ v.ends
  pub border : p.whole ≡ true → w.rest ≡ 0
  pub goes_on : v.side ≡ Client → p.kind ≢ TERMINATE
  pub at_once : v.side ≡ Server → p.kind ≡ PARAMETER_STATUS → p.is_foreign ≡ false → v.rest ≡ 0
  pub opens : p.whole ≡ false → (tail : List ℕ) → Opens v.side v.limit tail v.kind v.rest → Opens v.side v.limit (tail ++ bytes) w.kind w.rest
  pub spells : p.whole ≡ true → (tail : List ℕ) → Opens v.side v.limit tail v.kind v.rest → Spells v.side v.limit (tail ++ bytes) p.kind p.status p.is_foreign

-- the body of a whole frame of so many bytes, the last of those that may go on
abbrev pub last_body : FlowView → ℕ → List ℕ
last_body f count = drop HEAD (drop (length f.held - count) f.held)

-- none may
pub record Stays (v w : FlowView) : Type 0 where
  pub held : w.held ≡ v.held
  pub part : w.part ≡ v.part
  pub kind : w.kind ≡ v.kind
  pub rest : w.rest ≡ v.rest
  pub side : w.side ≡ v.side
  pub limit : w.limit ≡ v.limit
  pub stuck : is_open w.ends ≡ true → NoneGoes w
  pub ended : IsEnded w
