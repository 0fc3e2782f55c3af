-- Where a client waits for its answers (PostgreSQL manual, "Message Flow").
use Rattle.std.specs.Prelude.{ℕ, ◌+◌, Bool, nat_le, List, [], ◌∷◌, length, drop, slice_index_or, if◌then◌else◌}
use Rattle.frame_view.specs.declared.Side.TheVariants.{Client, Server}
use Rattle.frame_view.specs.declared.frames.TheConstants.{MAX_FRAME}
use Rattle.frame_view.specs.Frames.{FrameOf, spelling, frames, Start, FirstFront, AFirst, first_front}
use Rattle.session_run_laws.specs.Settling.{count, closes, is_ready}

-- the end of the StartupMessage that stands first, or of all bytes where none does
abbrev pub start_end : FirstFront → ℕ → ℕ
start_end (AFirst (Start text) rest) all = 8 + length text
start_end _ all = all

abbrev pub first_end : List ℕ → ℕ
first_end input = start_end (first_front input) (length input)

-- where the closing messages among these frames end, the first of which begins here
abbrev pub closing_ends : ℕ → List FrameOf → List ℕ
closing_ends at [] = []
closing_ends at (f ∷ fs) =
    if closes f then (at + length (spelling f)) ∷ closing_ends (at + length (spelling f)) fs
    else closing_ends (at + length (spelling f)) fs

-- The client waits for a ReadyForQuery at the end of its StartupMessage, and at that of each closing message.
abbrev pub pauses : List ℕ → List ℕ
pauses input = first_end input ∷ closing_ends (first_end input) (frames Client MAX_FRAME (drop (first_end input) input)).frames

-- how many ReadyForQuery came whole among these bytes
abbrev pub readies : List ℕ → ℕ
readies given = count is_ready (frames Server MAX_FRAME given).frames

-- How many bytes of the input may have been taken once the client was given these bytes: those before the first pause that
-- isn't answered, or all.
abbrev pub allowed_to_hand_out : List ℕ → List ℕ → ℕ
allowed_to_hand_out input given = slice_index_or (pauses input) (readies given) (length input)

abbrev pub all_answered : List ℕ → List ℕ → Bool
all_answered input given = nat_le (length (pauses input)) (readies given)
