-- SASLInitialResponse (PostgreSQL manual, "Message Formats").
use Rattle.std.specs.Prelude.{List, ℕ, [], ◌∷◌, ◌++◌, ◌==◌, ◌&&◌, if◌then◌else◌, nat_le, length, drop, Option, Some, None, codes}
use Rattle.byteorder.specs.Endian.{big_number}
use Rattle.scram.specs.Keys.{Text}
use Rattle.scram.specs.Texts.{◌>>=◌, behind}

-- what follows its length in four bytes
abbrev pub sized : Text → Option Text
sized text = if nat_le 4 (length text) && (big_number 4 text == length (drop 4 text)) then Some (drop 4 text) else None

-- the mechanism's name, a zero byte, and the client's first message behind its length
unfoldable pub initial_response_of : List ℕ → Option Text
initial_response_of body = do
  rest ← behind (codes "SCRAM-SHA-256" ++ 0 ∷ []) body
  sized rest
