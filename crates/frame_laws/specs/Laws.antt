-- Laws of streams that are handed out in parts. Each is the whole contract of a function of src/laws.rt.
use Rattle.std.specs.Prelude.{◌≡◌, ℕ, ◌+◌, ◌-◌, ◌<◌, min, ◌==◌, true, List, [], ◌∷◌, ◌++◌, length, take}
use Rattle.std.specs.List.{flat_map}
use Rattle.frame_view.specs.declared.Side.{Side}
use Rattle.frame_view.specs.declared.frames.TheConstants.{HEAD, LEAST_LENGTH}
use Rattle.frame_view.specs.Frames.{AreBytes, AHead, head_front, FrameOf, spelling, IsFrame, frames}
use Rattle.frame_view.specs.Laws.{following}
use Rattle.frame_view.specs.Parts.{PartOf, Head, Body, PlaceOf, AtHead, InBody, AtFault, TurnOf, turn, CursorOf, rest_of, at_border}
use Rattle.frame_laws.specs.Joined.{After, Nothing, Begins, Breaks, after_part, frame_by, joined, shown, hand_over}

-- Any cutting into pieces gives the same parts, joined: the frames of all the bytes, and then the
-- beginning of the next, or the fault that stands there.
abbrev pub PiecesGiveFrames : Type 0
PiecesGiveFrames = (side : Side) (limit : ℕ) (pieces : List (List ℕ)) → joined (hand_over side limit (AtHead []) pieces) ≡ shown side limit (frames side limit (flat_map (λ piece. piece) pieces))

-- ---- what a cursor tells of the bytes that it took

-- The bytes since the last border are the beginning of one frame: its head, without fault, and this
-- body, of which so many bytes are to come.
pub record Inside (side : Side) (limit : ℕ) (rest : ℕ) (since : List ℕ) (after : After) : Type 0 where
  pub kind : ℕ
  pub length_is : ℕ
  pub body : List ℕ
  pub head : head_front side limit since ≡ AHead kind length_is body
  pub rest_is : LEAST_LENGTH + (length body + rest) ≡ length_is
  pub after_is : after ≡ Begins kind length_is body

-- A place after these bytes since the last border, and what the parts that were given say of them.
abbrev pub Stands : Side → ℕ → PlaceOf → List ℕ → After → Type 0
Stands side limit (AtHead begun) since after = (since ≡ begun) × (length begun < HEAD) × (after ≡ Nothing)
Stands side limit (InBody rest) since after = Inside side limit rest since after
Stands side limit (AtFault begun fault) since after = (since ≡ begun) × (length begun < HEAD) × (after ≡ Breaks fault)

-- A cursor tells the bytes that it took and the parts that it gave: whatever comes, the frames of all
-- are those that were given, and then those of the bytes since the last border and what comes.
pub record Tells (c : CursorOf) (taken : List ℕ) (given : List PartOf) : Type 0 where
  pub since : List ℕ
  pub stands : Stands c.side c.limit c.place since (joined given).after
  pub frames : (more : List ℕ) → frames c.side c.limit (taken ++ more) ≡ following (joined given).frames (frames c.side c.limit (since ++ more))

-- A new cursor tells that nothing was taken and nothing given.
abbrev pub NewTells : Type 0
NewTells = (limit : ℕ) (side : Side) → Tells (record { limit = limit; side = side; place = AtHead [] }) [] []

-- After a call it tells the bytes that the call used too, and its part.
abbrev pub CallsTell : Type 0
CallsTell = (c : CursorOf) (taken piece : List ℕ) (given : List PartOf) → Tells c taken given →
    Tells (record c { place = (turn c.side c.limit c.place piece).place }) (taken ++ take (turn c.side c.limit c.place piece).used piece) (given ++ (turn c.side c.limit c.place piece).part ∷ [])

-- ---- one call

-- the bytes since the last border, once these are the bytes since the one before
abbrev pub since_border : PartOf → List ℕ → List ℕ
since_border (Body bytes true) since = []
since_border part since = since

-- a call that makes of the bytes since the last border these and those that it uses
pub record Steps (side : Side) (limit : ℕ) (since piece : List ℕ) (after : After) (t : TurnOf) : Type 0 where
  pub stands : Stands side limit t.place (since_border t.part (since ++ take t.used piece)) (after_part t.part after)
  pub frames : (more : List ℕ) → frames side limit (since ++ (take t.used piece ++ more)) ≡ following (frame_by t.part after) (frames side limit (since_border t.part (since ++ take t.used piece) ++ more))

abbrev pub CallsStep : Type 0
CallsStep = (side : Side) (limit : ℕ) (place : PlaceOf) (since piece : List ℕ) (after : After) → Stands side limit place since after → Steps side limit since piece after (turn side limit place piece)

-- At a border a lawful head at the front of a piece is told, and its five bytes are used.
abbrev pub HeadsOpen : Type 0
HeadsOpen = (side : Side) (limit : ℕ) (piece rest : List ℕ) (kind len : ℕ) → head_front side limit piece ≡ AHead kind len rest →
    turn side limit (AtHead []) piece ≡ record { used = HEAD; part = Head kind len; place = InBody (len - LEAST_LENGTH) }

-- Inside a frame a piece that isn't empty gives bytes of the body, as many as it has and the body lacks;
-- these are the last exactly where none is to come then.
pub record GoesOn (rest : ℕ) (piece : List ℕ) (t : TurnOf) : Type 0 where
  pub used : t.used ≡ min rest (length piece)
  pub part : t.part ≡ Body (take t.used piece) (rest_of t.place == 0)
  pub less : rest_of t.place ≡ rest - t.used

abbrev pub BodiesGoOn : Type 0
BodiesGoOn = (side : Side) (limit rest : ℕ) (piece : List ℕ) → 0 < length piece → GoesOn rest piece (turn side limit (InBody rest) piece)

-- The bytes since the last border are the beginning of one frame: with any bytes in the place of those
-- that are to come they are its one spelling, and it is the frame that the last part ends.
abbrev pub BeginningsAreOfOneFrame : Type 0
BeginningsAreOfOneFrame = (side : Side) (limit rest : ℕ) (since more : List ℕ) (after : After) → Inside side limit rest since after → length more ≡ rest → AreBytes (since ++ more) →
    (f : FrameOf) × (since ++ more ≡ spelling f) × IsFrame side limit f × (frame_by (Body more true) after ≡ f ∷ [])

-- A cursor is at a border exactly where no byte was taken since the last one.
abbrev pub BordersAreEmpty : Type 0
BordersAreEmpty = (side : Side) (limit : ℕ) (place : PlaceOf) (since : List ℕ) (after : After) → Stands side limit place since after → at_border place ≡ (length since == 0)
