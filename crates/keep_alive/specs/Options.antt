-- The value of a socket's option.
use Rattle.std.specs.Prelude.{ℕ, List, ◌++◌, ◌==◌, ◌||◌, Option, Some, None, if◌then◌else◌, nat_lt, replicate}
use Rattle.std.specs.Int.{w32, to_le_bytes}

-- four bytes, the lowest first, at the front of sixteen; none where there is nothing to set
abbrev pub option_value : ℕ → Option (List ℕ)
option_value n = if (n == 0) || nat_lt 2147483647 n then None else Some (to_le_bytes w32 n ++ replicate 12 0)
