-- The key of the salts that names have for SCRAM.
use Rattle.std.specs.Prelude.{ℕ, List, codes}
use Rattle.scram.specs.Hmac.{hmac}

-- who knows it doesn't know the seed
abbrev pub salts_key : List ℕ → List ℕ
salts_key seed = hmac seed (codes "salts")
