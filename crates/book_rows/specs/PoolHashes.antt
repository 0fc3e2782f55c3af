-- A number that the keys of a pool share.
use Rattle.std.specs.Prelude.{ℕ, List}
use Rattle.std.specs.Hash.FoldHasher as fold
use Rattle.session_values.specs.State.{StartKeyOf}

-- what the standard library's hasher makes of a database row's name and a user
abbrev pub pool_hash : List ℕ → List ℕ → ℕ
pool_hash row user = fold.finish (fold.write (fold.write fold.initial row) user)

abbrev pub pool_hash_of : StartKeyOf → ℕ
pool_hash_of key = pool_hash key.row key.user
