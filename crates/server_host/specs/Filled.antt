-- A text with zeros behind it.
use Rattle.std.specs.Prelude.{◌≡◌, ◌-◌, ◌++◌, ℕ, List, length, take, replicate}
use Rattle.std.proofs.Common.{refl}
use Rattle.server_host.specs.declared.Host.TheInside.{Inside}

abbrev pub filled : List ℕ → Inside
filled text = record { bytes = text ++ replicate (255 - length text) 0; len = length text }

-- the fields are those that the text gives
pub filled_again : (a : Inside) → length (take a.len a.bytes) ≡ a.len → a.bytes ≡ take a.len a.bytes ++ replicate (255 - a.len) 0 → filled (take a.len a.bytes) ≡ a
filled_again a whole behind = rw (whole, ← behind) refl
