-- What a catalogue holds that a file spells, and what a start key holds that a StartupMessage spells.
use Rattle.std.specs.Prelude.{◌≡◌, ◌<◌, ◌≤◌, ℕ, List, [], ◌∷◌, length, Option, Some, None, Bool, true, false, ◌||◌, bytes_eq, codes}
use Rattle.std.specs.Cmp.Lexicographic.{slice_cmp}
use Rattle.std.specs.Ordering.{nat_cmp, is_lt}
use Rattle.std.specs.List.{AllByRecursion}
use Rattle.message_view.specs.Bodies.{HasNoZero}
use Rattle.message_view.specs.Spelled.{FitsPair}
use Rattle.mini_sql.specs.Words.{Text, folded}
use Rattle.session_values.specs.State.{CatalogueOf, TableOf, StartKeyOf}

abbrev pub IsShort : ℕ → Text → Type 0
IsShort n t = length t ≤ n

abbrev pub IsValue : Option Text → Type 0
IsValue None = Unit {0}
IsValue (Some t) = length t ≤ 1048576

-- at most 64 columns, with names of at most 63 bytes and none of them 0
pub record IsLawfulTable (t : TableOf) : Type 0 where
  pub width : length t.columns ≤ 64
  pub columns : AllByRecursion (λ c. HasNoZero c × IsShort 63 c) t.columns
  pub rows : AllByRecursion (λ r. (length r ≤ 64) × AllByRecursion IsValue r) t.rows

pub record IsLawfulCatalogue (cat : CatalogueOf) : Type 0 where
  pub version : HasNoZero cat.version × IsShort 63 cat.version
  pub tables : AllByRecursion IsLawfulTable cat.tables

-- ---- start keys

-- a name that stands before another in the order of their bytes
abbrev pub is_before : Text → Text → Bool
is_before a b = is_lt (slice_cmp nat_cmp a b)

-- the names by which a StartupMessage says who asks for what: they are no parameters
abbrev pub is_identity : Text → Bool
is_identity name = bytes_eq name (codes "user") || bytes_eq name (codes "database")

-- each name before all that follow it, so that none stands twice
abbrev pub AreOrdered : List (Text × Text) → Type 0
AreOrdered [] = Unit {0}
AreOrdered (p ∷ ps) = AllByRecursion (λ q. is_before p.0 q.0 ≡ true) ps × AreOrdered ps

-- a name, and a value of at most 10,000 bytes, the greatest length of a first packet; no byte of them is 0
abbrev pub IsLawfulParameter : Text × Text → Type 0
IsLawfulParameter p = FitsPair p × IsShort 10000 p.1

-- where there is a server, the database has a name
abbrev pub HasDatabase : Option (List ℕ) → Text → Type 0
HasDatabase None dbname = Unit {0}
HasDatabase (Some host) dbname = 0 < length dbname

-- no byte of a text is 0, there is a user, and a database where there is a server
pub record IsLawfulKey (key : StartKeyOf) : Type 0 where
  pub row : HasNoZero key.row
  pub dbname : HasNoZero key.dbname
  pub user : HasNoZero key.user
  pub has_user : 0 < length key.user
  pub has_dbname : HasDatabase key.host key.dbname
  pub parameters : AllByRecursion IsLawfulParameter key.parameters
  pub ordered : AreOrdered key.parameters

-- names as a login follows them: in lower case, none of them user or database
abbrev pub IsFollowedName : Text × Text → Type 0
IsFollowedName p = (folded p.0 ≡ p.0) × (is_identity p.0 ≡ false)

-- a lawful key with such names: the pairs of user, database and its parameters give it back
pub record IsClientKey (key : StartKeyOf) : Type 0 where
  pub lawful : IsLawfulKey key
  pub names : AllByRecursion IsFollowedName key.parameters
