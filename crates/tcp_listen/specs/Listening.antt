-- Where clients are waited for.
use Rattle.std.specs.Prelude.{ℕ, List, Contains}
use Rattle.tcp_reach.specs.Places.{PlaceOf, IsPlaceOf}

-- a place of one of these names, at this port
abbrev pub IsListenedAt : List (List ℕ) → ℕ → PlaceOf → Type 0
IsListenedAt names port p = (name : List ℕ) × Contains names name × IsPlaceOf name port p
