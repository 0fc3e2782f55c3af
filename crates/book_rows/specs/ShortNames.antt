-- The names of a pool's database row and of its user, one behind the other.
use Rattle.std.specs.Prelude.{◌≡◌, ℕ, List, ◌++◌, length}
use Rattle.session_values.specs.State.{StartKeyOf}

pub record NameOf : Type 0 where
  -- so many bytes are the row's name
  pub row : ℕ
  pub both : List ℕ

abbrev pub name_of : ℕ → List ℕ → NameOf
name_of row both = record { row = row; both = both }

abbrev pub IsNameOf : StartKeyOf → NameOf → Type 0
IsNameOf key name = (name.row ≡ length key.row) × (name.both ≡ key.row ++ key.user)
