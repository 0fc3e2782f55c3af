-- The key of every link.
use Rattle.std.specs.Prelude.{[], ◌∷◌, Some, codes}
use Rattle.session_values.specs.State.{StartKeyOf}

-- that of ann on shop
abbrev pub anns_key : StartKeyOf
anns_key = record { row = codes "shop"; host = Some (codes "127.0.0.1"); port = 5432; dbname = codes "shop"; user = codes "ann"; parameters = [] }
