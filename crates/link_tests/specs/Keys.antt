-- The key under test.
use Rattle.std.specs.Prelude.{ℕ, List, [], ◌∷◌, Some, codes}
use Rattle.session_values.specs.State.{StartKeyOf}

-- that of ann on this database
abbrev pub ann_on : List ℕ → StartKeyOf
ann_on dbname = record { row = codes "shop"; host = Some (codes "127.0.0.1"); port = 5432; dbname = dbname; user = codes "ann"; parameters = [] }
