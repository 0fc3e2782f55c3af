-- What the pairs of a StartupMessage ask for (PostgreSQL manual, "StartupMessage"): user and database,
-- matched exactly, and parameters, named without regard to the case of ASCII letters.
use Rattle.std.specs.Prelude.{ℕ, List, [], ◌∷◌, length, fold, ◌==◌, if◌then◌else◌, bytes_eq, codes}
use Rattle.session_values.specs.MiniSqlWords as words
use Rattle.session_values.specs.Lawful.{is_before}

abbrev pub Text : Type 0
Text = List ℕ

-- a pair of the StartupMessage: a name and a value
abbrev pub Pair : Type 0
Pair = Text × Text

-- ---- user and database

-- of equal names the last counts; where there is none, what was found before
abbrev pub value_after : Text → Text → List Pair → Text
value_after found name pairs = fold (λ kept p. if bytes_eq p.0 name then p.1 else kept) found pairs

abbrev pub value_of : Text → List Pair → Text
value_of name pairs = value_after [] name pairs

abbrev pub user_in : List Pair → Text
user_in pairs = value_of (codes "user") pairs

abbrev pub if_empty : Text → Text → Text
if_empty t other = if length t == 0 then other else t

-- where it is missing or empty, it is that of the user's name
abbrev pub database_in : List Pair → Text
database_in pairs = if_empty (value_of (codes "database") pairs) (user_in pairs)

-- ---- parameters

-- the name in lower case
abbrev pub folded : Pair → Pair
folded p = (words.folded p.0, p.1)

-- at the place of its name, in the stead of an equal one
abbrev pub put_here : Pair → Pair → List Pair → List Pair
put_here p q qs = if bytes_eq q.0 p.0 then p ∷ qs else p ∷ q ∷ qs

abbrev pub put : Pair → List Pair → List Pair
put p [] = p ∷ []
put p (q ∷ qs) = if is_before q.0 p.0 then q ∷ put p qs else put_here p q qs
