-- The rows that a FETCH gives, and those that it leaves.
use Rattle.std.proofs.Common.{◌≡◌, ℕ, ◌≤◌, List, [], length, take, drop, sym, ◌∙◌}
use Rattle.std.proofs.Math.Seq.{take-length, drop-length}
use Rattle.std.proofs.Math.ListN.{drop_of_length-le}
use Rattle.std.proofs.lemmas.List.{take_all}
use Rattle.session_values.specs.State.{Row}

pub all_taken : (n : ℕ) (rows : List Row) → length rows ≤ n → take (length rows) rows ≡ take n rows
all_taken n rows h = take-length rows ∙ sym (take_all n rows h)

pub all_dropped : (n : ℕ) (rows : List Row) → length rows ≤ n → drop (length rows) rows ≡ drop n rows
all_dropped n rows h = drop-length rows ∙ sym (drop_of_length-le rows h)

pub whole_taken : (rows : List Row) → take (length rows) rows ≡ rows
whole_taken rows = take-length rows

pub whole_dropped : (rows : List Row) → drop (length rows) rows ≡ []
whole_dropped rows = drop-length rows
