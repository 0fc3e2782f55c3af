-- Parts of a stream, joined again, and what a cursor gives of pieces.
use Rattle.std.specs.Prelude.{ℕ, zero, suc, ◌+◌, ◌*◌, ◌==◌, Bool, true, false, if◌then◌else◌, List, [], ◌∷◌, ◌++◌, length, drop}
use Rattle.frame_view.specs.declared.FrameError.{FrameError}
use Rattle.frame_view.specs.declared.Side.{Side}
use Rattle.frame_view.specs.declared.frames.TheConstants.{LEAST_LENGTH}
use Rattle.frame_view.specs.Frames.{FrameOf, HeadFront, AHead, LacksHead, FaultyHead, head_front, Cut}
use Rattle.frame_view.specs.Parts.{PartOf, Head, Body, End, Bad, PlaceOf, TurnOf, turn}

-- What follows whole frames: nothing; a frame of which this head and these bytes of the body are there;
-- a fault; or a part out of its order.
pub data After : Type 0 where
  Nothing : After
  Begins : ℕ → ℕ → List ℕ → After
  Breaks : FrameError → After
  Disorder : After

pub record Joined : Type 0 where
  pub frames : List FrameOf
  pub after : After

-- a body is whole exactly where it is as long as the head says
abbrev pub after_body : ℕ → ℕ → List ℕ → Bool → After
after_body kind len body true = if LEAST_LENGTH + length body == len then Nothing else Disorder
after_body kind len body false = if LEAST_LENGTH + length body == len then Disorder else Begins kind len body

-- what follows the whole frames after one more part
abbrev pub after_part : PartOf → After → After
after_part End after = after
after_part (Head kind len) Nothing = Begins kind len []
after_part (Body bytes last) (Begins kind len body) = after_body kind len (body ++ bytes) last
after_part (Bad fault) Nothing = Breaks fault
after_part (Bad fault) (Breaks other) = Breaks fault
after_part part after = Disorder

-- the frame that is whole by a part
abbrev pub frame_by : PartOf → After → List FrameOf
frame_by (Body bytes true) (Begins kind len body) = record { kind = kind; body = body ++ bytes } ∷ []
frame_by part after = []

abbrev pub with_part : Joined → PartOf → Joined
with_part j part = record { frames = j.frames ++ frame_by part j.after; after = after_part part j.after }

abbrev pub joined_from : Joined → List PartOf → Joined
joined_from j [] = j
joined_from j (part ∷ parts) = joined_from (with_part j part) parts

-- the frames that parts are, and what follows them
abbrev pub joined : List PartOf → Joined
joined parts = joined_from (record { frames = []; after = Nothing }) parts

-- ---- what bytes are

abbrev pub after_front : HeadFront → After
after_front (AHead kind len body) = Begins kind len body
after_front (LacksHead n) = Nothing
after_front (FaultyHead fault) = Breaks fault

-- the frames of some bytes, and what their rest is: nothing that is told, a frame's beginning, or a fault
abbrev pub shown : Side → ℕ → Cut → Joined
shown side limit cut = record { frames = cut.frames; after = after_front (head_front side limit cut.rest) }

-- ---- what a cursor gives of pieces

pub record Given : Type 0 where
  pub parts : List PartOf
  pub place : PlaceOf

-- a piece is handed in, and then what is left of it, so many times
abbrev pub hand_in : Side → ℕ → ℕ → PlaceOf → List ℕ → Given
hand_in side limit zero place piece = record { parts = []; place = place }
hand_in side limit (suc n) place piece =
    let t : TurnOf = turn side limit place piece in
    let rest : Given = hand_in side limit n t.place (drop t.used piece) in
    record { parts = t.part ∷ rest.parts; place = rest.place }

-- Each piece is handed in until it is used up: unless a fault stands there, of any two calls before that
-- at least one takes a byte.
abbrev pub hand_over : Side → ℕ → PlaceOf → List (List ℕ) → List PartOf
hand_over side limit place [] = []
hand_over side limit place (piece ∷ pieces) =
    let given : Given = hand_in side limit (2 * length piece + 1) place piece in
    given.parts ++ hand_over side limit given.place pieces
