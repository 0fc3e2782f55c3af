-- Frames that go on in parts.
use Rattle.std.specs.Prelude.{◌≡◌, ℕ, ◌+◌, ◌<◌, ◌≤◌, Bool, true, false, ◌&&◌, ◌||◌, ◌==◌, nat_le, nat_lt, not, if◌then◌else◌, List, [], ◌∷◌, ◌++◌, take, length, IsTrue, Option, Some, None, Result, Ok, Err}
use Rattle.std.specs.Int.{w32, to_be_bytes}
use Rattle.frame_view.specs.declared.Side.{Side}
use Rattle.frame_view.specs.declared.Side.TheVariants.{Client, Server}
use Rattle.frame_view.specs.declared.FrameError.{FrameError}
use Rattle.frame_view.specs.declared.server.TheConstants.{PARAMETER_STATUS, READY_FOR_QUERY}
use Rattle.frame_view.specs.Frames.{FrameOf, IsFrame, is_type, spelling, Front, AFrame, Lacks, Faulty, front}
use Rattle.relay_flow.specs.declared.parts.Advance.{Advance}
use Rattle.relay_flow.specs.declared.parts.TheConstants.{READY_LENGTH, MAX_STATUS}

-- A server's frame of this type and length of which nothing goes on before it is whole: a ReadyForQuery
-- of length 5, and a ParameterStatus with a body of at most 4,096 bytes.
abbrev pub goes_whole : Side → ℕ → ℕ → Bool
goes_whole Client kind len = false
goes_whole Server kind len = (kind == READY_FOR_QUERY && len == READY_LENGTH) || (kind == PARAMETER_STATUS && nat_le len (4 + MAX_STATUS))

abbrev pub byte_in : List ℕ → Option ℕ
byte_in (b ∷ []) = Some b
byte_in _ = None

-- the status that a ReadyForQuery tells
abbrev pub status_in : FrameOf → Option ℕ
status_in f = if f.kind == READY_FOR_QUERY then byte_in f.body else None

-- a server's frame that no session sends: a ReadyForQuery of another length, a longer ParameterStatus
abbrev pub is_foreign : FrameOf → Bool
is_foreign f = (f.kind == READY_FOR_QUERY && not (length f.body == 1)) || (f.kind == PARAMETER_STATUS && nat_lt MAX_STATUS (length f.body))

-- the same of a frame that goes on in parts
abbrev pub is_foreign_in_parts : Side → ℕ → Bool
is_foreign_in_parts Client kind = false
is_foreign_in_parts Server kind = kind == READY_FOR_QUERY || kind == PARAMETER_STATUS

-- the beginning of a frame of this type, of which so many bytes are to come
pub record Begins (side : Side) (limit : ℕ) (tail : List ℕ) (kind rest : ℕ) : Type 0 where
  pub body : List ℕ
  pub bytes : tail ≡ kind ∷ to_be_bytes w32 (4 + (length body + rest)) ++ body
  pub of_type : IsTrue (is_type side kind)
  pub size : 4 + (length body + rest) ≤ limit
  pub in_parts : goes_whole side kind (4 + (length body + rest)) ≡ false

-- at a border nothing went on of the next frame
pub record Opens (side : Side) (limit : ℕ) (tail : List ℕ) (kind rest : ℕ) : Type 0 where
  pub border : rest ≡ 0 → tail ≡ []
  pub inside : 0 < rest → Begins side limit tail kind rest

-- the bytes are one whole frame of this type
pub record Spells (side : Side) (limit : ℕ) (bytes : List ℕ) (kind : ℕ) (status : Option ℕ) (foreign : Bool) : Type 0 where
  pub frame : FrameOf
  pub is_frame : IsFrame side limit frame
  pub kind_is : frame.kind ≡ kind
  pub status_is : side ≡ Server → status ≡ status_in frame
  pub foreign_is : side ≡ Server → foreign ≡ is_foreign frame
  pub spelled : bytes ≡ spelling frame

-- so many bytes of the part take the cursor from one place to the next
pub record Advances (side : Side) (limit : ℕ) (part : List ℕ) (kind rest : ℕ) (a : Advance) : Type 0 where
  pub some : 0 < a.count
  pub within : a.count ≤ length part
  -- a ParameterStatus that a session may send goes on at once
  pub at_once : side ≡ Server → a.kind ≡ PARAMETER_STATUS → a.is_foreign ≡ false → rest ≡ 0
  pub opens : 0 < a.rest → (tail : List ℕ) → Opens side limit tail kind rest → Opens side limit (tail ++ take a.count part) a.kind a.rest
  pub spells : a.rest ≡ 0 → (tail : List ℕ) → Opens side limit tail kind rest → Spells side limit (tail ++ take a.count part) a.kind a.status a.is_foreign

-- why nothing of a frame goes on: its head isn't whole, or it goes on whole and isn't yet
abbrev pub is_stuck : Side → Front → List ℕ → Bool
is_stuck side (Lacks n) (k ∷ a ∷ b ∷ c ∷ d ∷ rest) = goes_whole side k (4 + (length rest + n))
is_stuck side (Lacks n) short = true
is_stuck side (AFrame k body rest) bytes = false
is_stuck side (Faulty f) bytes = false

-- how the answer goes on from a border
abbrev pub GoesOn : Side → ℕ → List ℕ → ℕ → Result (Option Advance) FrameError → Type 0
GoesOn side limit part kind (Ok (Some a)) = Advances side limit part kind 0 a
GoesOn side limit part kind (Ok None) = is_stuck side (front side limit part) part ≡ true
GoesOn side limit part kind (Err fault) = front side limit part ≡ Faulty fault

-- how it goes on from inside a frame
abbrev pub GoesOnInside : Side → ℕ → List ℕ → ℕ → ℕ → Option Advance → Type 0
GoesOnInside side limit part kind rest (Some a) = Advances side limit part kind rest a
GoesOnInside side limit part kind rest None = part ≡ []
