-- The answers by which the pooler refuses a client, and what a client may be given.
use Rattle.std.specs.Prelude.{◌≡◌, ◌⊎◌, ℕ, List, ◌++◌, codes}
use Rattle.std.specs.List.{flat_map}
use Rattle.frame_view.specs.Frames.{FrameOf, spelling}
use Rattle.message_view.specs.declared.refusal.Refusal.{Refusal}
use Rattle.message_view.specs.declared.refusal.Refusal.TheVariants.{TooManyClients, UnsupportedProtocol, MalformedClientMessage, UnsupportedParameter, WaitedTooLong, ServerFailed, ServerNotReached, ShuttingDown, OutOfMemory, ClientMessageTooLong, MalformedServerMessage, LastDecision}
use Rattle.message_view.specs.Bodies.{Text}
use Rattle.message_view.specs.Messages.{error_response}

-- what a refusal tells: its number, SQLSTATE and text
pub record Telling : Type 0 where
  pub number : Text
  pub state : Text
  pub message : Text

abbrev pub telling : Refusal → Telling
telling TooManyClients = record { number = codes "P1"; state = codes "53300"; message = codes "too many client connections" }
telling UnsupportedProtocol = record { number = codes "P2"; state = codes "0A000"; message = codes "unsupported protocol version" }
telling MalformedClientMessage = record { number = codes "P3"; state = codes "08P01"; message = codes "malformed client message" }
telling UnsupportedParameter = record { number = codes "P4"; state = codes "0A000"; message = codes "unsupported startup parameter" }
telling WaitedTooLong = record { number = codes "P5"; state = codes "57P03"; message = codes "query_wait_timeout" }
telling ServerFailed = record { number = codes "P6"; state = codes "08006"; message = codes "server connection failed" }
telling ServerNotReached = record { number = codes "P7"; state = codes "08001"; message = codes "server could not be reached" }
telling ShuttingDown = record { number = codes "P8"; state = codes "57P01"; message = codes "pooler is shutting down" }
telling OutOfMemory = record { number = codes "P9"; state = codes "53200"; message = codes "pooler is out of memory" }
telling ClientMessageTooLong = record { number = codes "P10"; state = codes "54000"; message = codes "client message is too long" }
telling MalformedServerMessage = record { number = codes "P11"; state = codes "08P01"; message = codes "malformed server message" }
telling LastDecision = record { number = codes "P12"; state = codes "54000"; message = codes "pooler has reached its last decision" }

-- one ErrorResponse of severity FATAL
abbrev pub refusal_frame : Refusal → FrameOf
refusal_frame r = error_response (codes "FATAL") (telling r).state (telling r).message

unfoldable pub refusal : Refusal → List ℕ
refusal r = spelling (refusal_frame r)

-- ---- what a client may be given of the pieces that are meant for it

abbrev pub joined_pieces : List (List ℕ) → List ℕ
joined_pieces pieces = flat_map (λ p. p) pieces

-- the part is a beginning of the whole, possibly empty or all of it
pub record Begins (part whole : List ℕ) : Type 0 where
  pub more : List ℕ
  pub both : part ++ more ≡ whole

-- some first whole pieces, and then one refusal or a beginning of it
pub record IsRefused (out : List ℕ) (pieces : List (List ℕ)) : Type 0 where
  pub given : List (List ℕ)
  pub kept : List (List ℕ)
  pub pieces_are : given ++ kept ≡ pieces
  pub cause : Refusal
  pub last : List ℕ
  pub begins : Begins last (refusal cause)
  pub out_is : out ≡ joined_pieces given ++ last

-- What was given is a beginning of the pieces, or some first whole pieces and then a refusal or a
-- beginning of it.
abbrev pub Allowed : List ℕ → List (List ℕ) → Type 0
Allowed out pieces = Begins out (joined_pieces pieces) ⊎ IsRefused out pieces
