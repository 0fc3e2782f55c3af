-- The log's queue: lines that wait to be written, first in, first out, of which there are at most 1,024.
use Rattle.std.specs.Prelude.{◌≡◌, ◌+◌, ◌-◌, ◌^◌, ℕ, List, [], ◌∷◌, ◌++◌, Bool, true, false, ◌&&◌, Option, Some, None, if◌then◌else◌, nat_lt, length, take}
use Rattle.log_writer.specs.declared.queue.Next.{Next}
use Rattle.log_writer.specs.declared.queue.Next.TheVariants.{Dropped, Line}

abbrev pub Text : Type 0
Text = List ℕ

-- the lines, and how many were dropped since this was logged last
pub record QueueOf : Type 0 where
  pub lines : List Text
  pub dropped : ℕ

-- one more, as far as 64 bits count
abbrev pub one_more : ℕ → ℕ
one_more n = if nat_lt n (2 ^ 64 - 1) then n + 1 else n

abbrev pub with_drop : QueueOf → QueueOf
with_drop q = record q { dropped = one_more q.dropped }

abbrev pub has_room : QueueOf → Bool
has_room q = nat_lt (length q.lines) 1024

-- the first 1,000 bytes of the line stand last; or it is dropped
abbrev pub pushed : Text → QueueOf → QueueOf
pushed line q = if has_room q then record q { lines = q.lines ++ take 1000 line ∷ [] } else with_drop q

-- that lines were dropped is logged as soon as there is room again, before all lines that wait
abbrev pub tells_drops : QueueOf → Bool
tells_drops q = nat_lt 0 q.dropped && has_room q

-- what is written next, and the queue after it
abbrev pub Takes : QueueOf → Option Next → QueueOf → Type 0
Takes old (Some (Dropped n)) new = (tells_drops old ≡ true) × (n ≡ old.dropped) × (new ≡ record old { dropped = 0 })
Takes old (Some (Line line)) new = (tells_drops old ≡ false) × (old.lines ≡ line.items ∷ new.lines) × (new.dropped ≡ old.dropped)
Takes old None new = (tells_drops old ≡ false) × (old.lines ≡ []) × (new ≡ old)
