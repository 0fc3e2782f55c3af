-- Lists of what has a name.
use Rattle.std.specs.Prelude.{ℕ, List, filter, find, slice_set, Option, Some, None, Bool, not}
use Rattle.std.specs.List.{position_from}
use Rattle.mini_sql.specs.Words.{Text, same_text}

abbrev pub is_named : {A : Type 0} → (A → Text) → Text → A → Bool
is_named name_of n x = same_text (name_of x) n

abbrev pub is_other : {A : Type 0} → (A → Text) → Text → A → Bool
is_other name_of n x = not (is_named name_of n x)

-- the first of this name
abbrev pub named : {A : Type 0} → (A → Text) → List A → Text → Option A
named name_of xs n = find (is_named name_of n) xs

-- all that have another name
abbrev pub without : {A : Type 0} → (A → Text) → List A → Text → List A
without name_of xs n = filter (is_other name_of n) xs

abbrev pub set_at : {A : Type 0} → Option ℕ → List A → A → List A
set_at None xs x = xs
set_at (Some p) xs x = slice_set xs p x

-- the list with x in the place of the first of its name
abbrev pub with_named : {A : Type 0} → (A → Text) → List A → A → List A
with_named name_of xs x = set_at (position_from (is_named name_of (name_of x)) 0 xs) xs x
