-- Streams to servers.
use Rattle.std.specs.Prelude.{◌≡◌, ℕ, List, [], Option, Some, None, if◌then◌else◌}
use Rattle.tcp_reach.specs.Places.{PlaceOf, IsPlaceOf, is_place_of}

-- where it leads, and all that was sent over it
pub record StreamOf : Type 0 where
  pub place : PlaceOf
  pub sent : List ℕ

abbrev pub new_stream : PlaceOf → StreamOf
new_stream place = record { place = place; sent = [] }

-- this message, and no more, went to a place of one of these hosts at this port
abbrev pub IsSentTo : List ℕ → ℕ → List ℕ → StreamOf → Type 0
IsSentTo hosts port message s = IsPlaceOf hosts port s.place × (s.sent ≡ message)

-- a place that is known, where it is one of theirs
abbrev pub own_place : Option PlaceOf → List ℕ → ℕ → Option PlaceOf
own_place None hosts port = None
own_place (Some p) hosts port = if is_place_of hosts port p then Some p else None
