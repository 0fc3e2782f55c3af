-- Lists of lists.
use Rattle.std.specs.Prelude.{List, [], ◌∷◌, ◌++◌}

-- the items of lists, one list after another
abbrev pub all_of : {T : Type 0} → List (List T) → List T
all_of [] = []
all_of (t ∷ ts) = t ++ all_of ts
