-- An index by pool: which rows of a list are of each pool, by the rows' numbers.
use Rattle.std.specs.Prelude.{◌≡◌, ◌==◌, ℕ, List, [], ◌∷◌, ◌++◌, Option, Some, None, cond, filter, map, nat_eq, slice_get}
use Rattle.std.specs.List.{filter_map}
use Rattle.std.specs.Map.{lookup}
use Rattle.session_values.specs.State.{StartKeyOf}
use Rattle.book_model.specs.Book.{same_pool, without_number}
use Rattle.book_rows.specs.PoolHashes.{pool_hash_of}

-- the rows of one pool, in the list's order
pub record Group : Type 0 where
  pub pool : StartKeyOf
  pub numbers : List ℕ

abbrev pub in_group : StartKeyOf → Option Group → List ℕ
in_group pool None = []
in_group pool (Some group) = cond (same_pool group.pool pool) group.numbers []

-- what the groups, each under its pool's hash, list of a pool
abbrev pub listed : List (ℕ × Group) → StartKeyOf → List ℕ
listed groups pool = in_group pool (lookup (nat_eq (pool_hash_of pool)) groups)

-- the first row of a group that is under its pool's hash
abbrev pub first_of : ℕ × Group → Option ℕ
first_of e = cond (e.0 == pool_hash_of e.1.pool) (slice_get e.1.numbers 0) None

-- of each of these groups
abbrev pub firsts_in : List (ℕ × Group) → List ℕ
firsts_in groups = filter_map first_of groups

-- the rows of a pool, by their numbers
abbrev pub numbers_of : {A : Type 0} → (A → ℕ) → (A → StartKeyOf) → StartKeyOf → List A → List ℕ
numbers_of number key pool rows = map number (filter (λ row. same_pool (key row) pool) rows)

-- the groups list the rows of each pool
abbrev pub Lists : {A : Type 0} → (A → ℕ) → (A → StartKeyOf) → List (ℕ × Group) → List A → Type 0
Lists number key groups rows = (pool : StartKeyOf) → listed groups pool ≡ numbers_of number key pool rows

-- ---- an index that may have been given up

abbrev pub Groups : Type 0
Groups = List (ℕ × Group)

-- a row more of a pool, and one less
abbrev pub AddsRow : StartKeyOf → ℕ → Groups → Groups → Type 0
AddsRow pool number old new = (other : StartKeyOf) → listed new other ≡ cond (same_pool pool other) (listed old other ++ number ∷ []) (listed old other)

abbrev pub TakesRow : StartKeyOf → ℕ → Groups → Groups → Type 0
TakesRow pool number old new = (other : StartKeyOf) → listed new other ≡ cond (same_pool pool other) (without_number number (listed old other)) (listed old other)

-- one that wasn't given up lists the rows of each pool
abbrev pub ListsIfAny : {A : Type 0} → (A → ℕ) → (A → StartKeyOf) → Option Groups → List A → Type 0
ListsIfAny number key None rows = Unit {0}
ListsIfAny number key (Some groups) rows = Lists number key groups rows
