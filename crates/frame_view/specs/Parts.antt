-- A stream of frames in parts: what a cursor makes of the next piece of it, whatever its size.
use Rattle.std.specs.Prelude.{ℕ, ◌-◌, ◌<◌, nat_le, ◌==◌, Bool, true, false, if◌then◌else◌, List, [], ◌++◌, length, take}
use Rattle.std.specs.Borrow.{Bor}
use Rattle.frame_view.specs.declared.FrameError.{FrameError}
use Rattle.frame_view.specs.declared.Side.{Side}
use Rattle.frame_view.specs.declared.part_cursor.Begun.{Begun}
use Rattle.frame_view.specs.declared.part_cursor.Part.{Part}
use Rattle.frame_view.specs.declared.part_cursor.Part.TheVariants as part
use Rattle.frame_view.specs.declared.part_cursor.Place.{Place}
use Rattle.frame_view.specs.declared.part_cursor.Place.TheVariants as place
use Rattle.frame_view.specs.declared.part_cursor.Turn.{Turn}
use Rattle.frame_view.specs.declared.frames.TheConstants.{HEAD, LEAST_LENGTH}
use Rattle.frame_view.specs.Answers.{LiesAt}
use Rattle.frame_view.specs.Frames.{HeadFront, AHead, LacksHead, FaultyHead, head_front}

-- a frame's head (its type, its length), bytes of its body and whether they are the last, the end of a
-- piece, or no frame
pub data PartOf : Type 0 where
  Head : ℕ → ℕ → PartOf
  Body : List ℕ → Bool → PartOf
  End : PartOf
  Bad : FrameError → PartOf

-- Where a cursor stands: at a head of which these bytes were taken, inside a frame of whose body so many
-- bytes are to come, or at a head with this fault, of which these bytes were taken.
pub data PlaceOf : Type 0 where
  AtHead : List ℕ → PlaceOf
  InBody : ℕ → PlaceOf
  AtFault : List ℕ → FrameError → PlaceOf

-- how many bytes of a piece are used, the part that they are, and the place after it
pub record TurnOf : Type 0 where
  pub used : ℕ
  pub part : PartOf
  pub place : PlaceOf

-- At a head all that was taken of it and the piece are looked at. What a piece has of an unfinished head
-- is taken; of a head with a fault nothing is.
abbrev pub of_head : List ℕ → List ℕ → HeadFront → TurnOf
of_head begun piece (AHead kind len rest) = record { used = HEAD - length begun; part = Head kind len; place = InBody (len - LEAST_LENGTH) }
of_head begun piece (LacksHead n) = record { used = length piece; part = End; place = AtHead (begun ++ piece) }
of_head begun piece (FaultyHead fault) = record { used = 0; part = Bad fault; place = AtFault begun fault }

-- a piece that is shorter than the rest of a body
abbrev pub of_less : ℕ → List ℕ → TurnOf
of_less rest [] = record { used = 0; part = End; place = InBody rest }
of_less rest piece = record { used = length piece; part = Body piece false; place = InBody (rest - length piece) }

-- Inside a body what the piece has of it is taken. Where nothing is to come, the last part is empty.
abbrev pub of_body : ℕ → List ℕ → TurnOf
of_body rest piece = if nat_le rest (length piece) then record { used = rest; part = Body (take rest piece) true; place = AtHead [] } else of_less rest piece

-- what a cursor at this place makes of a piece; a fault stays
abbrev pub turn : Side → ℕ → PlaceOf → List ℕ → TurnOf
turn side limit (AtHead begun) piece = of_head begun piece (head_front side limit (begun ++ piece))
turn side limit (InBody rest) piece = of_body rest piece
turn side limit (AtFault begun fault) piece = record { used = 0; part = Bad fault; place = AtFault begun fault }

-- the bytes of a body that are to come
abbrev pub rest_of : PlaceOf → ℕ
rest_of (InBody rest) = rest
rest_of _ = 0

-- whether no byte was taken of a frame of which others are to come
abbrev pub at_border : PlaceOf → Bool
at_border (AtHead begun) = length begun == 0
at_border (InBody rest) = false
at_border (AtFault begun fault) = length begun == 0

-- ---- what the code's values stand for

-- a cursor
pub record CursorOf : Type 0 where
  pub limit : ℕ
  pub side : Side
  pub place : PlaceOf

abbrev pub begun_of : Begun → List ℕ
begun_of begun = take begun.count begun.bytes

abbrev pub place_of : Place → PlaceOf
place_of (place.Head begun) = AtHead (begun_of begun)
place_of (place.Body rest) = InBody rest
place_of (place.Fault begun fault) = AtFault (begun_of begun) fault

abbrev pub part_of : Part → PartOf
part_of (part.Head kind len) = Head kind len
part_of (part.Body bytes last) = Body bytes.now last
part_of part.End = End
part_of (part.Bad fault) = Bad fault

abbrev pub turn_of : Turn → TurnOf
turn_of t = record { used = t.used; part = part_of t.part; place = place_of t.place }

-- of a head that isn't whole fewer bytes were taken
abbrev pub HasPlace : Place → Type 0
HasPlace (place.Head begun) = begun.count < HEAD
HasPlace (place.Body rest) = Unit {0}
HasPlace (place.Fault begun fault) = begun.count < HEAD

-- bytes of a body are the piece's own memory, from its front on
abbrev pub LiesInPart : Part → Bor (List ℕ) → Type 0
LiesInPart (part.Body bytes last) piece = LiesAt bytes piece 0
LiesInPart _ piece = Unit {0}
